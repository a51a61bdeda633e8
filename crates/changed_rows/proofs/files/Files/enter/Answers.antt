-- One file more.
use Rattle.std.proofs.Common.{rules, arith, Option, None, ◌≡◌, ℕ, List, false, map, length, Some, None, string_bytes, is_some, sym, ap, ◌∙◌, subst, ◌++◌, ◌∷◌, []}
use Rattle.std.specs.declared.alloc.Global.{Global}
use Rattle.std.proofs.lemmas.List.{length-map, map-append}
use Rattle.changed_rows.specs.Files.{AreNumbers, number_of}
use Rattle.changed_rows.proofs.FileLemmas.{numbers_grow, number_given}
use Rattle.changed_rows.proofs.files.Files.enter.Goals as goal

none_there : (number : Option ℕ) → number ≡ None → is_some number ≡ false
none_there number none = ap is_some none

pub invariant_of-self-2 : goal.invariant_of-self-2
invariant_of-self-2 c =
    let names = c.self.inside.names.items in
    let old = map string_bytes names in
    let name = c.args.name.now in
    let none : is_some (number_of old name) ≡ false = search rules in
    let next : c.len-number.result ≡ length old = omega (arith, c.len-number.ensures, c.self.inside.names.ok.0, length-map names string_bytes) in
    let kept = c.in_ok-kept.kept in
    let pushed : c.push_reserved.new.self.items ≡ names ++ kept ∷ [] = c.push_reserved.ensures.items ∙ ap (λ xs. xs ++ kept ∷ []) c.reserve.ensures.items in
    let after : old ++ name ∷ [] ≡ map (string_bytes {Z = Global}) c.push_reserved.new.self.items =
    sym (ap (map string_bytes) pushed ∙ map-append string_bytes names (kept ∷ []) ∙ ap (λ t. old ++ t ∷ []) c.in_ok-kept.ensures.ok) in
    let grown = numbers_grow old name c.self.inside.numbers c.insert.new.self c.in_ok-key.key c.len-number.result c.self.invariant none c.in_ok-insert.ensures.updates c.in_ok-key.ensures.ok next in
    subst (λ (files : List (List ℕ)). AreNumbers files c.insert.new.self) after grown

pub returns-clause-number : goal.returns-clause-number
returns-clause-number c =
    let names = c.self.inside.names.items in
    let old = map string_bytes names in
    let name = c.args.name.now in
    let none : is_some (number_of old name) ≡ false = search rules in
    let next : length old ≡ c.len-number.result = omega (arith, c.len-number.ensures, c.self.inside.names.ok.0, length-map names string_bytes) in
    let kept = c.in_ok-kept.kept in
    let pushed : c.push_reserved.new.self.items ≡ names ++ kept ∷ [] = c.push_reserved.ensures.items ∙ ap (λ xs. xs ++ kept ∷ []) c.reserve.ensures.items in
    let after : old ++ name ∷ [] ≡ map (string_bytes {Z = Global}) c.push_reserved.new.self.items =
    sym (ap (map string_bytes) pushed ∙ map-append string_bytes names (kept ∷ []) ∙ ap (λ t. old ++ t ∷ []) c.in_ok-kept.ensures.ok) in
    ap (λ files. number_of files name) (sym after) ∙ number_given old name none ∙ ap Some next
