-- What an input that was read, or wasn't, is.
use Rattle.std.proofs.Common.{◌≡◌, ◌≢◌, ℕ, List, Bool, true, false, Some, None, IfSome, Result, MatchResult, refl, sym, ap, ◌∙◌, subst}
use Rattle.std.specs.Str.{IsUtf8, is_utf8}
use Rattle.std.proofs.lemmas.Str.{is_utf8-from_IsUtf8, IsUtf8-from_is_utf8}
use Rattle.json.specs.Json.{Json, document}
use Rattle.json.specs.declared.error.Error as json_error
use Rattle.json.specs.declared.error.Error.TheVariants.{Invalid, OutOfMemory, TooLong, DuplicateKey}
use Rattle.sarif_log.specs.declared.log.Log as code
use Rattle.sarif_log.specs.declared.top.LogError.{LogError}
use Rattle.sarif_log.specs.Log.{log_view}
use Rattle.sarif_log.specs.Answer.{no_json, log, answer_to, error_view, json_in, said_by, said_in, without_mark}

read_is : (bytes text : List ℕ) (value : Json) → text ≡ without_mark bytes → IsUtf8 text → document text ≡ Some value → answer_to bytes ≡ said_by value
unfolding answer_to
read_is bytes text value is utf8 read =
    ap (λ t. said_in (json_in t)) (sym is) ∙ rw (is_utf8-from_IsUtf8 text utf8, read) refl

none_by_test : (text : List ℕ) (b : Bool) → is_utf8 text ≡ b → (IsUtf8 text → document text ≡ None) → said_in (json_in text) ≡ no_json
none_by_test text true utf8 none = rw (utf8, none (IsUtf8-from_is_utf8 text utf8)) refl
none_by_test text false utf8 none = rw utf8 refl

unread_is : (bytes text : List ℕ) → text ≡ without_mark bytes → (IsUtf8 text → document text ≡ None) → answer_to bytes ≡ no_json
unfolding answer_to
unread_is bytes text is none = ap (λ t. said_in (json_in t)) (sym is) ∙ none_by_test text (is_utf8 text) refl none

-- what was made of the value is said of the input
pub said_of : (bytes text : List ℕ) (value : Json) (r : Result code.Log LogError) → text ≡ without_mark bytes → IsUtf8 text → document text ≡ Some value
    → MatchResult r (λ found. said_by value ≡ log (log_view found)) (λ e. IfSome (error_view e) (λ said. said_by value ≡ said))
    → MatchResult r (λ found. answer_to bytes ≡ log (log_view found)) (λ e. IfSome (error_view e) (λ said. answer_to bytes ≡ said))
said_of bytes text value r is utf8 read made =
    subst (λ a. MatchResult r (λ found. a ≡ log (log_view found)) (λ e. IfSome (error_view e) (λ said. a ≡ said))) (sym (read_is bytes text value is utf8 read)) made

other : (bytes : List ℕ) (r : LogError) → error_view r ≡ None → IfSome (error_view r) (λ said. answer_to bytes ≡ said)
other bytes r none = subst (λ o. IfSome o (λ said. answer_to bytes ≡ said)) (sym none) tt

-- what can't be read is no JSON, unless memory was wanting
pub unread_says : (bytes text : List ℕ) (e : json_error.Error) (r : LogError) → text ≡ without_mark bytes → (e ≡ Invalid → IsUtf8 text → document text ≡ None)
    → (e ≡ Invalid → error_view r ≡ Some no_json) → (e ≢ Invalid → error_view r ≡ None) → IfSome (error_view r) (λ said. answer_to bytes ≡ said)
unread_says bytes text Invalid r is none invalid others =
    subst (λ o. IfSome o (λ said. answer_to bytes ≡ said)) (sym (invalid refl)) (unread_is bytes text is (none refl))
unread_says bytes text OutOfMemory r is none invalid others = other bytes r (others (λ same. cc))
unread_says bytes text TooLong r is none invalid others = other bytes r (others (λ same. cc))
unread_says bytes text DuplicateKey r is none invalid others = other bytes r (others (λ same. cc))
