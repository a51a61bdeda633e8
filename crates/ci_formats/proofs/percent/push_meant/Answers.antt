use Rattle.std.proofs.Common.{[], ◌∷◌, ◌++◌, ap, ◌∙◌, append_assoc, string_bytes, lit<}
use Rattle.std.proofs.lemmas.Str.{encode_ascii}
use Rattle.ci_formats.proofs.PercentLemmas.{meant_none, meant_some, meant_boundary, meant_ascii}
use Rattle.ci_formats.proofs.percent.push_meant.Goals as goal

pub range_from-requires : goal.range_from-requires
range_from-requires c = λ _. meant_boundary c.args.field c.args.behind.now c.in-Some.byte c.utf8.behind c.in-Some.ensures

pub returns-in_ok-push-in-Some-clause-text : goal.returns-in_ok-push-in-Some-clause-text
returns-in_ok-push-in-Some-clause-text c =
    rw (c.in_ok-push-in-Some.ensures.bytes, c.range_from.ensures.value, c.from.ensures, encode_ascii c.in-Some.byte (meant_ascii c.args.field c.args.behind.now c.in-Some.byte c.in-Some.ensures))
    (append_assoc (string_bytes c.args.out.now) (c.in-Some.byte ∷ []) _ ∙ ap (λ l. string_bytes c.args.out.now ++ l) (meant_some c.args.field c.args.behind.now c.in-Some.byte c.in-Some.ensures))

pub returns-in_ok-push-in-None-clause-text : goal.returns-in_ok-push-in-None-clause-text
returns-in_ok-push-in-None-clause-text c =
    rw (c.in_ok-push-in-None.ensures.bytes, encode_ascii 0x25 (lit< tt))
    (append_assoc (string_bytes c.args.out.now) (0x25 ∷ []) _ ∙ ap (λ l. string_bytes c.args.out.now ++ l) (meant_none c.args.field c.args.behind.now c.in-None.ensures))
