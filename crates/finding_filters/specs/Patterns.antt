-- Patterns of files and of rules.
use Rattle.std.specs.Prelude.{◌≡◌, ◌⊎◌, ℕ, ◌-◌, ◌==◌, ◌&&◌, ◌||◌, not, nat_lt, Bool, true, false, List, [], ◌∷◌, ◌++◌, length, take, drop, reverse, codes, if◌then◌else◌}
use Rattle.std.specs.List.{list_any, prefix_len, suffix_len}
use Rattle.std.specs.Str.{chars}
use Rattle.finding_filters.specs.Tokens.{Takes, end_of, takes_all, takes_one, tokens_of}
use Rattle.finding_filters.specs.declared.tokens.Ending.{Ending}
use Rattle.finding_filters.specs.declared.tokens.Ending.TheVariants.{Nothing, NothingOrSlash, Slash}
use Rattle.finding_filters.specs.declared.tokens.Token.{Token}
use Rattle.finding_filters.specs.declared.tokens.Token.TheVariants.{Exactly, Any}

abbrev pub is_slash : ℕ → Bool
is_slash c = c == 0x2F

abbrev pub is_slash_first : List ℕ → Bool
is_slash_first [] = false
is_slash_first (c ∷ rest) = c == 0x2F

-- ---- patterns of files

-- a pattern: what it takes of a name that begins at the top, and of another, from the last token on; whether it begins at any folder, and
-- what may come after it
pub record GlobParts : Type 0 where
  pub absolute : List Token
  pub relative : List Token
  pub anywhere : Bool
  pub ending : Ending

abbrev pub without_dot_in : List ℕ → List ℕ
without_dot_in [] = []
without_dot_in (c ∷ []) = c ∷ []
without_dot_in (c ∷ d ∷ rest) = if c == 0x2E && d == 0x2F then rest else c ∷ d ∷ rest

abbrev pub without_last_slashes : List ℕ → List ℕ
without_last_slashes pattern = take (length pattern - suffix_len is_slash pattern) pattern

abbrev pub without_first_slashes : List ℕ → List ℕ
without_first_slashes pattern = drop (prefix_len is_slash pattern) pattern

abbrev pub glob_with : List ℕ → List ℕ → GlobParts
glob_with pattern path = record {
  absolute = reverse (tokens_of false false path);
  relative = reverse (tokens_of false false (without_first_slashes path));
  anywhere = not (list_any is_slash path);
  ending = if nat_lt (length path) (length pattern) then Slash else NothingOrSlash;
}

-- a pattern's text, without `./` before it; with a slash at its end it takes what is below a folder, and with another it begins at the root
unfoldable pub glob_in : List ℕ → GlobParts
glob_in pattern = glob_with (without_dot_in pattern) (without_last_slashes (without_dot_in pattern))

abbrev pub tokens_at : GlobParts → Bool → List Token
tokens_at glob true = glob.absolute
tokens_at glob false = glob.relative

abbrev pub IsTakenBy : GlobParts → List Token → List ℕ → Type 0
IsTakenBy glob tokens name = Takes glob.ending tokens name ⊎ ((glob.anywhere ≡ true) × Takes glob.ending (Any ∷ Exactly 0x2F ∷ tokens) name)

-- a pattern takes a name: from its beginning on, or, where it begins at any folder, after any text and a slash
abbrev pub IsTaken : GlobParts → List ℕ → Type 0
IsTaken glob name = IsTakenBy glob (reverse (tokens_at glob (is_slash_first name))) name

abbrev pub takes_by : GlobParts → List Token → List ℕ → Bool
takes_by glob tokens name =
    takes_all (end_of glob.ending) tokens name || (glob.anywhere && takes_one Any (takes_one (Exactly 0x2F) (takes_all (end_of glob.ending) tokens)) name)

abbrev pub takes_at : GlobParts → Bool → List ℕ → Bool
takes_at glob absolute name = takes_by glob (tokens_at glob absolute) name

-- the same as a test
abbrev pub glob_takes : GlobParts → List ℕ → Bool
glob_takes glob name = takes_at glob (is_slash_first name) name

-- ---- patterns of rules

abbrev pub takes_whole : List Token → List ℕ → Bool
takes_whole rule text = takes_all (end_of Nothing) rule text

abbrev pub IsText : List Token → List ℕ → Type 0
IsText rule text = Takes Nothing (reverse rule) (chars text)

-- a rule takes the code, the scope, `scope(code)` or `scope/code`
abbrev pub IsRuled : List Token → List ℕ → List ℕ → Type 0
IsRuled rule scope code =
    IsText rule code ⊎ ((nat_lt 0 (length scope) ≡ true) × (IsText rule scope ⊎ (IsText rule (scope ++ codes "(" ++ code ++ codes ")") ⊎ IsText rule (scope ++ codes "/" ++ code))))

abbrev pub takes_scope : List Token → List ℕ → List ℕ → Bool
takes_scope rule scope code =
    takes_whole rule (chars scope) || (takes_whole rule (chars (scope ++ codes "(" ++ code ++ codes ")")) || takes_whole rule (chars (scope ++ codes "/" ++ code)))

-- the same as a test
abbrev pub rule_takes : List Token → List ℕ → List ℕ → Bool
rule_takes rule scope code = takes_whole rule (chars code) || (nat_lt 0 (length scope) && takes_scope rule scope code)
