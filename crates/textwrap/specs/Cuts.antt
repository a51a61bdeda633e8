-- A text cut from its front into longest parts that fit a room, each of one character at least.
use Rattle.std.specs.Prelude.{◌≡◌, ℕ, ◌<◌, ◌≤◌, ◌&&◌, nat_lt, Bool, true, false, List, [], ◌∷◌, ◌++◌, length, take, drop, fold, chars, encode_utf8, encode_utf8_all, if◌then◌else◌}
use Rattle.textwrap.specs.declared.pen.Pen.{Pen}
use Rattle.textwrap.specs.Width.{at_start, moved}

-- the cells of characters
abbrev pub cells_of : List ℕ → ℕ
cells_of cs = (fold moved at_start cs).width

-- the first n characters are the longest front that fits the room, or the first of all alone
pub record IsLongestFront (room : ℕ) (cs : List ℕ) (n : ℕ) : Type 0 where
  pub some : 1 ≤ n
  pub within : n ≤ length cs
  pub fits : 1 < n → cells_of (take n cs) ≤ room
  pub longest : (m : ℕ) → n < m → m ≤ length cs → room < cells_of (take m cs)

-- the numbers of characters of longest fronts, one after another
abbrev pub AreLongestFronts : ℕ → List ℕ → List ℕ → Type 0
AreLongestFronts room cs [] = length cs ≡ 0
AreLongestFronts room cs (n ∷ counts) = IsLongestFront room cs n × AreLongestFronts room (drop n cs) counts

-- characters as texts of so many characters each
abbrev pub texts_of : List ℕ → List ℕ → List (List ℕ)
texts_of cs [] = []
texts_of cs (n ∷ counts) = encode_utf8_all (take n cs) ∷ texts_of (drop n cs) counts

-- the same, where no characters are one empty text
abbrev pub cut_texts : List ℕ → List ℕ → List (List ℕ)
cut_texts [] counts = [] ∷ []
cut_texts (c ∷ cs) counts = texts_of (c ∷ cs) counts

-- texts are what a text is cut into
abbrev pub IsCut : ℕ → List ℕ → List (List ℕ) → Type 0
IsCut room text texts = (counts : List ℕ) × (AreLongestFronts room (chars text) counts × (texts ≡ cut_texts (chars text) counts))

-- bytes put before the first of some texts
abbrev pub before_first : List ℕ → List (List ℕ) → List (List ℕ)
before_first bytes [] = bytes ∷ []
before_first bytes (text ∷ texts) = (bytes ++ text) ∷ texts

-- computed, behind a pen: a character that doesn't fit begins the next text, but for the first of all
abbrev pub cuts_behind : ℕ → Bool → Pen → List ℕ → List (List ℕ)
cuts_behind room some pen [] = [] ∷ []
cuts_behind room some pen (c ∷ cs) =
    if some && nat_lt room (moved pen c).width
    then [] ∷ before_first (encode_utf8 c) (cuts_behind room true (moved at_start c) cs)
    else before_first (encode_utf8 c) (cuts_behind room true (moved pen c) cs)

-- the texts into which a text is cut, computed
unfoldable pub cuts : ℕ → List ℕ → List (List ℕ)
cuts room text = cuts_behind room false at_start (chars text)

-- the law: they are the one cut
abbrev pub IsOneCut : ℕ → List ℕ → Type 0
IsOneCut room text = (texts : List (List ℕ)) → IsCut room text texts → texts ≡ cuts room text
