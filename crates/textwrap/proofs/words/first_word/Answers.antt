use Rattle.std.proofs.Common.{◌≡◌, ◌+◌, sym, ◌∙◌, arith, refl, subst, length}
use Rattle.std.proofs.lemmas.Bool.Decides.{nat_tests}
use Rattle.std.proofs.lemmas.List.{take_rest}
use Rattle.textwrap.specs.Words.{words}
use Rattle.std.specs.Str.{IsCharBoundary}
use Rattle.textwrap.proofs.WordsLemmas.{words_from, words_start, word_step, word_cut, cut_edge, word_spaced, spaced_edge, word_whole}
use Rattle.textwrap.proofs.words.first_word.Goals as goal

pub loop-at-init : goal.loop-at-init
loop-at-init c = words_start c.args.part.now

pub returns-then-part-at-eq32-clause-first : goal.returns-then-part-at-eq32-clause-first
returns-then-part-at-eq32-clause-first c =
    word_spaced c.args.part.now c.loop-at.at c.leading_spaces.result c.loop-at-test.true (grind (arith, nat_tests)) (rw take_rest at c.leading_spaces.ensures) c.loop-at.invariant

pub returns-then-part-at-eq32-clause-gap_end : goal.returns-then-part-at-eq32-clause-gap_end
returns-then-part-at-eq32-clause-gap_end c = (spaced_edge c.args.part.now c.loop-at.at c.leading_spaces.result c.requires.text c.loop-at-test.true (grind (arith, nat_tests)) (rw take_rest at c.leading_spaces.ensures)).1

pub returns-then-is_cut_behind-clause-first : goal.returns-then-is_cut_behind-clause-first
returns-then-is_cut_behind-clause-first c =
    word_cut c.args.part.now c.loop-at.at c.loop-at-test.true (grind (arith, nat_tests)) (sym c.is_cut_behind.ensures ∙ c.if-is_cut_behind.true) c.loop-at.invariant

pub returns-then-is_cut_behind-clause-text_end : goal.returns-then-is_cut_behind-clause-text_end
returns-then-is_cut_behind-clause-text_end c =
    cut_edge c.args.part.now c.loop-at.at c.requires.text c.loop-at-test.true (sym c.is_cut_behind.ensures ∙ c.if-is_cut_behind.true)

pub returns-then-is_cut_behind-clause-gap_end : goal.returns-then-is_cut_behind-clause-gap_end
returns-then-is_cut_behind-clause-gap_end c =
    let place : c.loop-at.at + 1 ≡ c.loop-at.at + 1 + 0 = omega arith in
    subst (IsCharBoundary c.args.part.now) place (cut_edge c.args.part.now c.loop-at.at c.requires.text c.loop-at-test.true (sym c.is_cut_behind.ensures ∙ c.if-is_cut_behind.true))

pub loop-at-preserved : goal.loop-at-preserved
loop-at-preserved c =
    word_step c.args.part.now c.loop-at.at c.loop-at-test.true (grind (arith, nat_tests)) (sym c.is_cut_behind.ensures ∙ c.if-is_cut_behind.false) ∙ c.loop-at.invariant

pub returns-clause-first : goal.returns-clause-first
returns-clause-first c =
    let at_end : c.loop-at.at ≡ length c.args.part.now = omega arith in
    word_whole c.args.part.now (length c.args.part.now) refl c.requires.some (subst (λ n. words_from c.args.part.now n ≡ words c.args.part.now) at_end c.loop-at.invariant)
