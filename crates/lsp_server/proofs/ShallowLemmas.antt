-- What is published isn't nested deep.
use Rattle.std.proofs.Common.{ℕ, ℤ, pos, negsuc, suc, ◌≤◌, List, [], ◌∷◌, map, length, nat_lt, Bool, true, false, if◌then◌else◌, codes, Option, Some, None, Ordering, Less, Equal, Greater, nat_cmp, arith}
use Rattle.std.specs.Cmp.Lexicographic.{slice_cmp}
use Rattle.std.specs.Ordering.{match_ordering}
use Rattle.serde_json.specs.Data.{Data, string, array, object, Members, no_members, member, put, depth, items_depth, members_depth}
use Rattle.serde_json.specs.View.{items_of}
use Rattle.oxc_span.specs.Label.{Label, label_end}
use Rattle.oxc_protocol.specs.Parts.{OxcParts}
use Rattle.text_places.specs.declared.place.Place.{Place}
use Rattle.lsp_server.specs.Seen.{Seen, client_place, head_label, others}
use Rattle.lsp_server.specs.Messages.{message_text, said}
use Rattle.lsp_server.specs.Diagnostics.{diagnostic_value, first_members, head_range, label_range, location_value, more_members, published_value, put_some, range_value, related_value, related_values, severity_number, some_link, some_range, some_related, some_version, text_value, whole}

-- arrays and objects nest so deep at most
record IsShallow (most : ℕ) (it : Data) : Type 0 where
  is : depth it ≤ most

record AreShallow (most : ℕ) (ms : Members) : Type 0 where
  are : members_depth ms ≤ most

abbrev IsShallowOption : ℕ → Option Data → Type 0
IsShallowOption most None = Unit {0}
IsShallowOption most (Some d) = IsShallow most d

shallow_put_at : (o : Ordering) (most : ℕ) (k l : List ℕ) (d e : Data) (ms : Members) → IsShallow most d → IsShallow most e → AreShallow most ms
    → AreShallow most (put k d ms)
    → AreShallow most (match_ordering o (member k d (member l e ms)) (member l d ms) (member l e (put k d ms)))
shallow_put_at Less most k l d e ms new first rest more = record { are = omega (arith, new.is, first.is, rest.are) }
shallow_put_at Equal most k l d e ms new first rest more = record { are = omega (arith, new.is, rest.are) }
shallow_put_at Greater most k l d e ms new first rest more = record { are = omega (arith, first.is, more.are) }

shallow_put : (most : ℕ) (k : List ℕ) (d : Data) (ms : Members) → IsShallow most d → AreShallow most ms → AreShallow most (put k d ms)
shallow_put most k d no_members new rest = record { are = omega (arith, new.is) }
shallow_put most k d (member l e ms) new rest =
    let first : IsShallow most e = record { is = omega (arith, rest.are) } in
    let others : AreShallow most ms = record { are = omega (arith, rest.are) } in
    shallow_put_at (slice_cmp nat_cmp k l) most k l d e ms new first others (shallow_put most k d ms new others)

shallow_put_some : (most : ℕ) (k : List ℕ) (o : Option Data) (ms : Members) → IsShallowOption most o → AreShallow most ms → AreShallow most (put_some k o ms)
shallow_put_some most k None ms new rest = rest
shallow_put_some most k (Some d) ms new rest = shallow_put most k d ms new rest

none : (most : ℕ) → AreShallow most no_members
none most = record { are = omega arith }

in_object : (most : ℕ) (ms : Members) → AreShallow most ms → IsShallow (suc most) (object ms)
in_object most ms are = record { is = omega (arith, are.are) }

items_shallow : {A : Type 0} (most : ℕ) (f : A → Data) → ((x : A) → IsShallow most (f x)) → (xs : List A) → items_depth (items_of (map f xs)) ≤ most
items_shallow most f each [] = omega arith
items_shallow most f each (x ∷ xs) = let rest = items_shallow most f each xs in omega (arith, (each x).is, rest)

in_array : {A : Type 0} (most : ℕ) (f : A → Data) → ((x : A) → IsShallow most (f x)) → (xs : List A) → IsShallow (suc most) (array (items_of (map f xs)))
in_array most f each xs = record { is = omega (arith, items_shallow most f each xs) }

text : (most : ℕ) (bytes : List ℕ) → IsShallow most (string bytes)
text most bytes = record { is = omega arith }

some_text : (most : ℕ) (it : Option (List ℕ)) → IsShallowOption most (text_value it)
some_text most None = tt
some_text most (Some bytes) = text most bytes

range_shallow : (start end : Place) → IsShallow 2 (range_value start end)
unfolding range_value
range_shallow start end = record { is = omega arith }

label_shallow : (file : Seen) (label : Label) → IsShallow 2 (label_range file label)
unfolding label_range
label_shallow file label = range_shallow (client_place file label.offset) (client_place file (label_end label))

some_shallow : (file : Seen) (label : Option Label) → IsShallow 2 (some_range file label)
some_shallow file None = range_shallow (record { line = 0; unit = 0 }) (record { line = 0; unit = 0 })
some_shallow file (Some label) = label_shallow file label

head_shallow : (file : Seen) (labels : List Label) → IsShallow 2 (head_range file labels)
unfolding head_range
head_shallow file labels = some_shallow file (head_label labels)

location_shallow : (file : Seen) (label : Label) → IsShallow 3 (location_value file label)
location_shallow file label =
    in_object 2 _ (shallow_put 2 (codes "range") (label_range file label) _ (label_shallow file label)
    (shallow_put 2 (codes "uri") (string file.uri) no_members (text 2 file.uri) (none 2)))

related_shallow : (file : Seen) (message : List ℕ) (label : Label) → IsShallow 4 (related_value file message label)
unfolding related_value
related_shallow file message label =
    in_object 3 _ (shallow_put 3 (codes "message") (string (said message label)) _ (text 3 (said message label))
    (shallow_put 3 (codes "location") (location_value file label) no_members (location_shallow file label) (none 3)))

some_related_at : (some : Bool) (file : Seen) (message : List ℕ) (labels : List Label)
    → IsShallowOption 5 (if some then Some (array (items_of (map (related_value file message) labels))) else None)
some_related_at true file message labels = in_array 4 (related_value file message) (related_shallow file message) labels
some_related_at false file message labels = tt

related_values_at : (shows : Bool) (file : Seen) (it : OxcParts) → IsShallowOption 5 (if shows then some_related file it.message (others it.labels) else None)
related_values_at true file it = some_related_at (nat_lt 0 (length (others it.labels))) file it.message (others it.labels)
related_values_at false file it = tt

related_values_shallow : (file : Seen) (it : OxcParts) → IsShallowOption 5 (related_values file it)
unfolding related_values
related_values_shallow file it = related_values_at file.related file it

link_shallow : (url : Option (List ℕ)) → IsShallowOption 5 (some_link url)
link_shallow None = tt
link_shallow (Some url) = record { is = omega arith }

more_shallow : (file : Seen) (it : OxcParts) (ms : Members) → AreShallow 5 ms → AreShallow 5 (more_members file it ms)
unfolding more_members
more_shallow file it ms are =
    shallow_put_some 5 _ _ _ (related_values_shallow file it)
    (shallow_put_some 5 _ _ _ (link_shallow it.url)
    (shallow_put_some 5 _ _ _ (some_text 5 it.code.number)
    (shallow_put_some 5 _ _ _ (some_text 5 it.code.scope) are)))

whole_shallow : (most n : ℕ) → IsShallow most (whole n)
whole_shallow most n = record { is = omega arith }

range_more : (file : Seen) (labels : List Label) → IsShallow 5 (head_range file labels)
range_more file labels = record { is = omega (arith, (head_shallow file labels).is) }

first_shallow : (range : Data) (severity : ℕ) (message : List ℕ) → IsShallow 5 range → AreShallow 5 (first_members range severity message)
unfolding first_members
first_shallow range severity message is =
    shallow_put 5 (codes "message") (string message) _ (text 5 message)
    (shallow_put 5 (codes "severity") (whole severity) _ (whole_shallow 5 severity)
    (shallow_put 5 (codes "range") range no_members is (none 5)))

diagnostic_shallow : (file : Seen) (it : OxcParts) → IsShallow 6 (diagnostic_value file it)
unfolding diagnostic_value
diagnostic_shallow file it =
    in_object 5 _ (more_shallow file it _
    (first_shallow (head_range file it.labels) (severity_number it.severity) (message_text file it) (range_more file it.labels)))

version_shallow : (version : Option ℤ) → IsShallowOption 7 (some_version version)
unfolding some_version
version_shallow None = tt
version_shallow (Some (pos n)) = record { is = omega arith }
version_shallow (Some (negsuc n)) = record { is = omega arith }

pub published_shallow : (file : Seen) (its : List OxcParts) → depth (published_value file its) ≤ 8
unfolding published_value
published_shallow file its =
    let uri = shallow_put 7 (codes "uri") (string file.uri) _ (text 7 file.uri)
    (shallow_put 7 (codes "diagnostics") (array (items_of (map (diagnostic_value file) its))) no_members
    (in_array 6 (diagnostic_value file) (diagnostic_shallow file) its) (none 7)) in
    (in_object 7 _ (shallow_put_some 7 (codes "version") (some_version file.version) _ (version_shallow file.version) uri)).is
