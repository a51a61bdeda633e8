use Rattle.std.proofs.Common.{rules, ◌≡◌, ◌≢◌, ◌+◌, ◌-◌, ◌++◌, ◌∙◌, OnOk, ap, arith, drop, length, string_bytes, subst, sym, take}
use Rattle.std.proofs.lemmas.Str.{IsAscii-drop}
use Rattle.std.proofs.lemmas.List.Elements.{All-drop}
use Rattle.memchr.specs.Find.{NoneBefore, Nowhere, Passes, is_byte}
use Rattle.oxc_handlers.specs.Texts.{IsAsciiWithoutEscapes, shown_text}
use Rattle.oxc_handlers.proofs.TabsLemmas.{shown_bytes, tab_more, tab_none}
use Rattle.oxc_handlers.proofs.line.write_between_tabs.Goals as goal

pub loop-at-preserved : goal.loop-at-preserved
loop-at-preserved c =
    let rest = c.loop-at.rest.now in
    let at = c.in-Some.at in
    let kept = c.loop-at.invariant in
    let left : c.range_from-rest.result.now ≡ drop (at + 1) rest = c.range_from-rest.ensures.value in
    let whole : at - 0 ≡ at = omega arith in
    let before : c.range.result.now ≡ take at rest = c.range.ensures.value ∙ ap (λ n. take n rest) whole in
    let found : NoneBefore (Passes (is_byte 9) rest) 0 (length rest) at × Passes (is_byte 9) rest at =
    subst (λ bytes. NoneBefore (Passes (is_byte 9) bytes) 0 (length bytes) at × Passes (is_byte 9) bytes at) c.as_bytes.ensures.value c.in-Some.ensures in
    record {
      text = search rules;
      ascii = subst IsAsciiWithoutEscapes (sym left) (IsAscii-drop rest (at + 1) kept.ascii.0, All-drop (λ byte. byte ≢ 0x1B) (at + 1) rest kept.ascii.1);
      drawn = rw (c.in_ok-write_spaces.ensures, c.in_ok-push_str.ensures.bytes, before, left, c.get.ensures.width, c.get-in-Some.ensures.width)
          (tab_more (string_bytes c.loop-at.out) c.args.tabs c.loop-at.column at rest kept.ascii.0 kept.ascii.1 found.0 found.1 ∙ kept.drawn);
      room = omega (arith, kept.room, c.range_from-rest.ensures.len, c.get.ensures.most);
    }

pub returns : goal.returns
returns c =
    let rest = c.loop-at.rest.now in
    let kept = c.loop-at.invariant in
    let none : Nowhere (Passes (is_byte 9) rest) 0 (length rest) = subst (λ bytes. Nowhere (Passes (is_byte 9) bytes) 0 (length bytes)) c.as_bytes.ensures.value c.in_default.ensures in
    let whole : string_bytes c.loop-at.out ++ rest ≡ string_bytes c.args.out.now ++ shown_text c.args.tabs c.args.text.now =
    tab_none (string_bytes c.loop-at.out) c.args.tabs c.loop-at.column rest kept.ascii.0 kept.ascii.1 none
    ∙ kept.drawn
    ∙ ap (λ l. string_bytes c.args.out.now ++ l) (sym (shown_bytes c.args.tabs c.args.text.now c.requires.ascii.0)) in
    subst (λ written. OnOk c.push_str-2.result (string_bytes c.push_str-2.new.self ≡ written)) whole (search rules)
