-- An attribute that may not stand there, and one that may.
use Rattle.std.proofs.Common.{◌≡◌, ◌∙◌, ◌+◌, ◌-◌, ◌<◌, [], ◌∷◌, ◌++◌, Some, true, false, length, map, ap, arith, rules}
use Rattle.xml_values.specs.declared.marks.Class.TheVariants.{Blank}
use Rattle.xml_values.specs.Marks.{begins_name, past_blanks, run}
use Rattle.xml_values.specs.Tag.{attribute, is_empty, may_add}
use Rattle.xml_values.specs.Views.{attribute_view}
use Rattle.xml_values.proofs.TagLemmas.{attributes_turn, attributes_twice, one_added}
use Rattle.xml_values.proofs.tag.read_attributes.Goals as goal

pub returns-then-not-may_add-clause-cause : goal.returns-then-not-may_add-clause-cause
returns-then-not-may_add-clause-cause c = λ refused.
    let rest = c.loop-turn.rest.now in
    let earlier = map attribute_view c.loop-turn.attributes.items in
    let it = attribute_view c.in_ok-it.it in
    let begins : begins_name (past_blanks rest) ≡ true = grind arith in
    let blank : is_empty (run Blank rest) ≡ false = grind arith in
    let is : attribute (past_blanks rest) ≡ Some (it, c.in_ok-it.more.now) = grind arith in
    let never : may_add earlier it ≡ false = grind arith in
    c.loop-turn.invariant ∙ attributes_twice (length c.args.bytes.now + 1 - c.loop-turn._turn) earlier rest it c.in_ok-it.more.now (omega (arith, c.loop-turn-test.true)) begins blank is never

pub loop-turn-preserved : goal.loop-turn-preserved
loop-turn-preserved c =
    let rest = c.loop-turn.rest.now in
    let earlier = map attribute_view c.loop-turn.attributes.items in
    let it = attribute_view c.in_ok-it.it in
    let begins : begins_name (past_blanks rest) ≡ true = grind arith in
    let blank : is_empty (run Blank rest) ≡ false = grind arith in
    let is : attribute (past_blanks rest) ≡ Some (it, c.in_ok-it.more.now) = grind arith in
    let may : may_add earlier it ≡ true = grind arith in
    let more : c.push.new.self.items ≡ c.loop-turn.attributes.items ++ c.in_ok-it.it ∷ [] = search rules in
    let pushed = ap (map attribute_view) more ∙ one_added attribute_view c.loop-turn.attributes.items c.in_ok-it.it in
    c.loop-turn.invariant ∙ attributes_turn (length c.args.bytes.now) c.loop-turn._turn earlier _ rest it c.in_ok-it.more.now c.loop-turn-test.true begins blank is may pushed
