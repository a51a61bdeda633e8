-- A number that is written is read.
use Rattle.std.proofs.Common.{◌≡◌, ℕ, zero, suc, ◌+◌, ◌-◌, ◌*◌, ◌^◌, ◌<◌, ◌≤◌, ◌==◌, true, false, if◌then◌else◌, cond, List, [], ◌∷◌, ◌++◌, length, take, drop, get_or, Some, None, decimal, nat_le, refl, ap, ◌∙◌, arith}
use Rattle.std.specs.Char.{digit_value}
use Rattle.std.specs.List.{prefix_len, slice_index}
use Rattle.std.specs.Option.{option_map}
use Rattle.std.specs.Str.Parse.{AllDigits, digits_value_after}
use Rattle.std.proofs.lemmas.Bool.{and_from, le-leb, lt-ltb, ne_eqb, or_from}
use Rattle.std.proofs.lemmas.Fmt.{decimal_is_IsNumeral, first_decimal, decimal_digit}
use Rattle.std.proofs.lemmas.List.{take_at, drop_at}
use Rattle.std.proofs.lemmas.Str.{digit_value_digit}
use Rattle.std.proofs.lemmas.Str.Parse.{digit_from_value}
use Rattle.line_shapes.specs.declared.bytes.Kind.TheVariants.{Blank, Digit}
use Rattle.line_shapes.specs.Bytes.{is_digit, is_in, leads_well, number_at, small, value_from, value_of}

digit_test : (d : ℕ) → digit_value d < 10 → is_digit d ≡ true
digit_test d low = let range = digit_from_value d low in and_from (nat_le 0x30 d) (nat_le d 0x39) (le-leb 0x30 d range.0) (le-leb d 0x39 range.1)

digits_only : (ds rest : List ℕ) (byte : ℕ) → AllDigits 10 ds → is_digit byte ≡ false → prefix_len (is_in Digit) (ds ++ byte ∷ rest) ≡ length ds
digits_only [] rest byte all other = ap (λ v. cond v (1 + prefix_len (is_in Digit) rest) 0) other
digits_only (d ∷ ds) rest byte (first, others) other =
    let more : 1 + length ds ≡ suc (length ds) = omega arith in
    ap (λ v. cond v (1 + prefix_len (is_in Digit) (ds ++ byte ∷ rest)) 0) (digit_test d first) ∙ (ap (λ n. 1 + n) (digits_only ds rest byte others other) ∙ more)

value_same : (value : ℕ) (ds : List ℕ) → AllDigits 10 ds → value_from value ds ≡ digits_value_after 10 value ds
value_same value [] all = refl
value_same value (d ∷ ds) (first, others) =
    let range = digit_from_value d first in
    let back : digit_value d + 48 ≡ d = digit_value_digit d range in
    let same : value * 10 + (d - 0x30) ≡ value * 10 + digit_value d = omega (arith, back) in
    ap (λ v. value_from v ds) same ∙ value_same (value * 10 + digit_value d) ds others

leads_decimal : (n : ℕ) → n < 2 ^ 32 → leads_well (decimal n) ≡ true
leads_decimal zero low = ap leads_well (decimal_digit 0 (omega arith))
leads_decimal (suc n) low = high (decimal (suc n)) (first_decimal (suc n) (omega arith) (omega (arith, low)))
  where
    high : (text : List ℕ) → 0x30 < get_or text 0 0 → leads_well text ≡ true
    high [] first = absurd (omega (arith, first))
    high (byte ∷ []) first = refl
    high (byte ∷ (next ∷ rest)) first = rw (ne_eqb byte 0x30 (λ e. omega (arith, e, first))) refl

value_back : (n : ℕ) → n < 2 ^ 32 → value_of (decimal n) ≡ Some n
value_back n low =
    let wide : n < 2 ^ 64 = omega (arith, low) in
    let numeral = decimal_is_IsNumeral n wide in
    ap (λ v. if v then small (value_from 0 (decimal n)) else None) (leads_decimal n low)
    ∙ (ap small (value_same 0 (decimal n) numeral.0.1 ∙ numeral.1) ∙ ap (λ v. if v then Some n else None) (lt-ltb n (2 ^ 32) low))

pub number_there : (n byte : ℕ) (rest : List ℕ) → n < 2 ^ 32 → is_digit byte ≡ false → number_at (decimal n ++ byte ∷ rest) ≡ Some (length (decimal n), n)
number_there n byte rest low other =
    let numeral = decimal_is_IsNumeral n (omega (arith, low)) in
    ap (λ k. option_map (λ (value : ℕ). (k, value)) (value_of (take k (decimal n ++ byte ∷ rest)))) (digits_only (decimal n) rest byte numeral.0.1 other)
    ∙ (ap (λ text. option_map (λ (value : ℕ). (length (decimal n), value)) (value_of text)) (take_at (decimal n) (byte ∷ rest) (length (decimal n)) refl)
    ∙ ap (option_map (λ (value : ℕ). (length (decimal n), value))) (value_back n low))

pub rest_there : (n byte : ℕ) (rest : List ℕ) → drop (length (decimal n)) (decimal n ++ byte ∷ rest) ≡ byte ∷ rest
rest_there n byte rest = drop_at (decimal n) (byte ∷ rest) (length (decimal n)) refl

-- a number begins with a digit
no_blank_digit : (d : ℕ) → digit_value d < 10 → is_in Blank d ≡ false
no_blank_digit d low =
    let range : (0x30 ≤ d) × (d ≤ 0x39) = (omega (arith, (digit_from_value d low).0), omega (arith, (digit_from_value d low).1)) in
    or_from (d == 0x20) (d == 0x09) (ne_eqb d 0x20 (λ e. omega (arith, e, range.0))) (ne_eqb d 0x09 (λ e. omega (arith, e, range.0)))

digits_front : (ds rest : List ℕ) → 0 < length ds → AllDigits 10 ds → is_in Blank (slice_index (ds ++ rest) 0) ≡ false
digits_front [] rest some all = absurd (omega arith)
digits_front (d ∷ ds) rest some (first, others) = no_blank_digit d first

pub decimal_front : (n : ℕ) (rest : List ℕ) → n < 2 ^ 32 → is_in Blank (slice_index (decimal n ++ rest) 0) ≡ false
decimal_front n rest low =
    let numeral = decimal_is_IsNumeral n (omega (arith, low)) in
    digits_front (decimal n) rest numeral.0.0 numeral.0.1
