-- What `==` of seen reports and of their parts decides: that contracts see the same of both.
use Rattle.std.specs.Prelude.{◌≡◌, Bool, List, [], ◌∷◌, map, Option, Some, None, option_map, nat_eq, string_bytes}
use Rattle.std.proofs.Common.{refl, ap}
use Rattle.std.specs.Bool.{Decides}
use Rattle.std.specs.Option.{option_eq}
use Rattle.std.specs.Cmp.{unsigned_Decides, booleans_Decides}
use Rattle.std.specs.Cmp.Lexicographic.{pointwise, pointwise_decides}
use Rattle.std.specs.declared.string.String.{String}
use Rattle.std.specs.declared.alloc.Global.{Global}
use Rattle.std.proofs.lemmas.Bool.Decides.{Decides-and}
use Rattle.oxc_protocol.specs.declared.protocol.Severity.{Severity}
use Rattle.oxc_protocol.specs.declared.protocol.Severity.TheVariants.{Advice, Warning, Error}
use Rattle.oxc_protocol.specs.contracts.protocol.SeverityPartialEq.TheImpl.{ghosts as severity_test}
use Rattle.report_reader.specs.declared.seen.SeenMark.{SeenMark}
use Rattle.report_reader.specs.declared.seen.SeenRow.{SeenRow}
use Rattle.report_reader.specs.declared.seen.SeenHead.{SeenHead}
use Rattle.report_reader.specs.declared.seen.SeenHead.TheVariants.{Named, Bare, Dashes}
use Rattle.report_reader.specs.declared.seen.SeenSnippet.{SeenSnippet}
use Rattle.report_reader.specs.declared.seen.Seen.{Seen}
use Rattle.report_reader.specs.contracts.seen.SeenMarkPartialEq.TheImpl.{ghosts as mark_test}
use Rattle.report_reader.specs.contracts.seen.SeenRowPartialEq.TheImpl.{ghosts as row_test}
use Rattle.report_reader.specs.contracts.seen.SeenHeadPartialEq.TheImpl.{ghosts as head_test}
use Rattle.report_reader.specs.contracts.seen.SeenSnippetPartialEq.TheImpl.{ghosts as snippet_test}
use Rattle.report_reader.specs.contracts.seen.SeenPartialEq.TheImpl.{ghosts as seen_test}
use Rattle.report_reader.specs.Seen.{Mark, Row, Snippet, Report, named, bare, mark_model, row_model, head_model, snippet_model, report_model}

-- where a test of two values decides whether the same is seen of them, so it does of lists of them
pub list_same : {A M : Type 0} {E : A → A → Bool} (seen : A → M) → ((x y : A) → Decides (E x y) (seen x ≡ seen y)) → (xs ys : List A) → Decides (pointwise E xs ys) (map seen xs ≡ map seen ys)
list_same seen d [] [] = (λ _. refl, λ _. refl)
list_same seen d [] (y ∷ ys) = (λ h. cc, λ h. cc)
list_same seen d (x ∷ xs) [] = (λ h. cc, λ h. cc)
list_same seen d (x ∷ xs) (y ∷ ys) =
    let all = Decides-and _ _ (d x y) (list_same seen d xs ys) in
    (λ h. let p = all.0 h in λ i. p.0 i ∷ p.1 i, λ e. all.1 (cc, cc))

-- and of values that may be missing
pub option_same : {A M : Type 0} {E : A → A → Bool} (seen : A → M) → ((x y : A) → Decides (E x y) (seen x ≡ seen y)) → (x y : Option A) → Decides (option_eq E x y) (option_map seen x ≡ option_map seen y)
option_same seen d None None = (λ _. refl, λ _. refl)
option_same seen d None (Some y) = (λ h. cc, λ h. cc)
option_same seen d (Some x) None = (λ h. cc, λ h. cc)
option_same seen d (Some x) (Some y) = (λ h. ap Some ((d x y).0 h), λ h. (d x y).1 (cc))

text_same : (a b : String Global) → Decides (pointwise nat_eq (string_bytes a) (string_bytes b)) (string_bytes a ≡ string_bytes b)
text_same a b = pointwise_decides unsigned_Decides (string_bytes a) (string_bytes b)

severity_same : (a b : Severity) → Decides (severity_test.eq a b) (a ≡ b)
severity_same Advice Advice = (λ _. refl, λ _. refl)
severity_same Advice Warning = (λ h. cc, λ h. cc)
severity_same Advice Error = (λ h. cc, λ h. cc)
severity_same Warning Advice = (λ h. cc, λ h. cc)
severity_same Warning Warning = (λ _. refl, λ _. refl)
severity_same Warning Error = (λ h. cc, λ h. cc)
severity_same Error Advice = (λ h. cc, λ h. cc)
severity_same Error Warning = (λ h. cc, λ h. cc)
severity_same Error Error = (λ _. refl, λ _. refl)

pub mark_same : (a b : SeenMark) → Decides (mark_test.eq a b) (mark_model a ≡ mark_model b)
mark_same a b =
    let all = Decides-and _ _ (unsigned_Decides a.start b.start) (Decides-and _ _ (unsigned_Decides a.end b.end) (Decides-and _ _ (option_same string_bytes text_same a.text b.text) (booleans_Decides a.arrow b.arrow))) in
    (λ h. let p = all.0 h in λ i. record { start = p.0 i; end = p.1.0 i; text = p.1.1.0 i; arrow = p.1.1.1 i }, λ e. all.1 (ap (λ (m : Mark). m.start) e, (ap (λ (m : Mark). m.end) e, (ap (λ (m : Mark). m.text) e, ap (λ (m : Mark). m.arrow) e))))

pub row_same : (a b : SeenRow) → Decides (row_test.eq a b) (row_model a ≡ row_model b)
row_same a b =
    let all = Decides-and _ _ (unsigned_Decides a.number b.number) (Decides-and _ _ (text_same a.text b.text) (list_same mark_model mark_same a.marks.items b.marks.items)) in
    (λ h. let p = all.0 h in λ i. record { number = p.0 i; text = p.1.0 i; marks = p.1.1 i }, λ e. all.1 (ap (λ (r : Row). r.number) e, (ap (λ (r : Row). r.text) e, ap (λ (r : Row). r.marks) e)))

pub head_same : (a b : SeenHead) → Decides (head_test.eq a b) (head_model a ≡ head_model b)
head_same (Named name row column) (Named other r c) =
    let all = Decides-and _ _ (text_same name other) (Decides-and _ _ (unsigned_Decides row r) (unsigned_Decides column c)) in
    (λ h. let p = all.0 h in λ i. named (p.0 i) (p.1.0 i) (p.1.1 i), λ e. all.1 (cc, (cc, cc)))
head_same (Named name row column) (Bare r c) = (λ h. cc, λ h. cc)
head_same (Named name row column) Dashes = (λ h. cc, λ h. cc)
head_same (Bare row column) (Named other r c) = (λ h. cc, λ h. cc)
head_same (Bare row column) (Bare r c) =
    let all = Decides-and _ _ (unsigned_Decides row r) (unsigned_Decides column c) in
    (λ h. let p = all.0 h in λ i. bare (p.0 i) (p.1 i), λ e. all.1 (cc, cc))
head_same (Bare row column) Dashes = (λ h. cc, λ h. cc)
head_same Dashes (Named other r c) = (λ h. cc, λ h. cc)
head_same Dashes (Bare r c) = (λ h. cc, λ h. cc)
head_same Dashes Dashes = (λ _. refl, λ _. refl)

pub snippet_same : (a b : SeenSnippet) → Decides (snippet_test.eq a b) (snippet_model a ≡ snippet_model b)
snippet_same a b =
    let all = Decides-and _ _ (head_same a.head b.head) (list_same row_model row_same a.rows.items b.rows.items) in
    (λ h. let p = all.0 h in λ i. record { head = p.0 i; rows = p.1 i }, λ e. all.1 (ap (λ (s : Snippet). s.head) e, ap (λ (s : Snippet). s.rows) e))

pub seen_same : (a b : Seen) → Decides (seen_test.eq a b) (report_model a ≡ report_model b)
seen_same a b =
    let all = Decides-and _ _ (severity_same a.severity b.severity) (Decides-and _ _ (text_same a.title b.title) (list_same snippet_model snippet_same a.snippets.items b.snippets.items)) in
    (λ h. let p = all.0 h in λ i. record { severity = p.0 i; title = p.1.0 i; snippets = p.1.1 i }, λ e. all.1 (ap (λ (r : Report). r.severity) e, (ap (λ (r : Report). r.title) e, ap (λ (r : Report). r.snippets) e)))
