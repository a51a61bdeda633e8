-- Breaks start at LF and CR alone, so a search of these two bytes finds all.
use Rattle.std.proofs.Common.{◌≡◌, ℕ, ◌+◌, ◌-◌, Bool, true, false, List, length, get_or, refl, ap, arith, None, suc, zero}
use Rattle.std.specs.List.{cons_option, filter_map, range_with_len}
use Rattle.std.proofs.lemmas.Bool.Decides.{nat_tests}
use Rattle.memchr.specs.Find.{is_byte2, places, places_from}
use Rattle.oxc_windows.specs.Breaks.{break_at, breaks_before, breaks_of}

-- no break starts at another byte
pub none_elsewhere : (bytes : List ℕ) (at : ℕ) → is_byte2 10 13 (get_or bytes at 0) ≡ false → break_at bytes at ≡ None
none_elsewhere bytes at h = grind (arith, nat_tests)

-- one place before places at which the breaks are known
at_place : (bytes : List ℕ) (i n : ℕ) → filter_map (break_at bytes) (places_from (is_byte2 10 13) bytes (i + 1) n) ≡ filter_map (break_at bytes) (range_with_len (i + 1) n)
    → (found : Bool) → is_byte2 10 13 (get_or bytes i 0) ≡ found
    → filter_map (break_at bytes) (places_from (is_byte2 10 13) bytes i (suc n)) ≡ filter_map (break_at bytes) (range_with_len i (suc n))
unfolding places_from
at_place bytes i n later true e = rw e (ap (cons_option (break_at bytes i)) later)
at_place bytes i n later false e = rw (e, none_elsewhere bytes i e) later

-- the breaks at the n places from i on, if one of the two bytes stands at i or none
at_places : (bytes : List ℕ) (i n : ℕ) → filter_map (break_at bytes) (places_from (is_byte2 10 13) bytes i n) ≡ filter_map (break_at bytes) (range_with_len i n)
unfolding places_from
at_places bytes i zero = refl
at_places bytes i (suc n) = at_place bytes i n (at_places bytes (i + 1) n) (is_byte2 10 13 (get_or bytes i 0)) refl

pub breaks_at_places : (bytes : List ℕ) → filter_map (break_at bytes) (places (is_byte2 10 13) bytes) ≡ breaks_of bytes
unfolding breaks_of breaks_before
breaks_at_places bytes = let all : length bytes - 0 ≡ length bytes = omega arith in rw all (at_places bytes 0 (length bytes))
