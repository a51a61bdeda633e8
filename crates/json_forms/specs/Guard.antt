-- What is asked of an element.
use Rattle.std.specs.Prelude.{ℕ, List, Bool, true, false, not, nat_eq, Option, Some, None}
use Rattle.std.specs.List.{list_all, list_any, starts_with, ends_with}
use Rattle.std.specs.Borrow.{Bor}
use Rattle.std.specs.Str.{bytes_eq}
use Rattle.json_spots.specs.Spot.{Spot}
use Rattle.json_spots.specs.Said.{Said, nothing, words, figure, truth, other, says, said_at, word_of}
use Rattle.json_forms.specs.declared.form.Ask.{Ask}
use Rattle.json_forms.specs.declared.form.Ask.TheVariants.{There, Given, Missing, Is, Begins, Ends, BeginsOther}
use Rattle.json_forms.specs.declared.form.Guard.{Guard}
use Rattle.json_forms.specs.declared.form.Row.{Row}
use Rattle.json_forms.specs.declared.form.Row.TheVariants.{Part, Only, Aside, Level, Constant}

-- whether a text is a word, or begins or ends with it
abbrev pub fits : Ask → List ℕ → List ℕ → Bool
fits There text word = false
fits Given text word = false
fits Missing text word = false
fits Is text word = bytes_eq text word
fits Begins text word = starts_with nat_eq text word
fits Ends text word = ends_with nat_eq text word
fits BeginsOther text word = starts_with nat_eq text word

abbrev pub any_fits : Ask → List ℕ → List (Bor (List ℕ)) → Bool
any_fits ask text list = list_any (λ word. fits ask text word.now) list

abbrev pub is_given : Said → Bool
is_given nothing = false
is_given (words text) = true
is_given (figure text) = true
is_given (truth b) = true
is_given other = true

abbrev pub word_fits : Guard → Option (List ℕ) → Bool
word_fits guard None = false
word_fits guard (Some text) = any_fits guard.ask text guard.words.items

abbrev pub asks : Guard → Ask → Said → Bool
asks guard There said = says said
asks guard Given said = is_given said
asks guard Missing said = not (is_given said)
asks guard Is said = word_fits guard (word_of said)
asks guard Begins said = word_fits guard (word_of said)
asks guard Ends said = word_fits guard (word_of said)
asks guard BeginsOther said = not (word_fits guard (word_of said))

unfoldable pub holds : Guard → Spot → Bool
holds guard spot = asks guard guard.ask (said_at guard.path spot)

abbrev pub lets_through : Spot → Row → Bool
lets_through spot (Part own paths) = true
lets_through spot (Only guard) = holds guard spot
lets_through spot (Aside guard) = true
lets_through spot (Level levels) = true
lets_through spot (Constant own word) = true

abbrev pub stops : Spot → Row → Bool
stops spot (Part own paths) = false
stops spot (Only guard) = false
stops spot (Aside guard) = holds guard spot
stops spot (Level levels) = false
stops spot (Constant own word) = false

abbrev pub all_hold : List Row → Spot → Bool
all_hold rows spot = list_all (lets_through spot) rows

abbrev pub any_holds : List Row → Spot → Bool
any_holds rows spot = list_any (stops spot) rows
