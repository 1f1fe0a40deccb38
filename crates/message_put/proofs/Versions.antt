-- The list of a 7200's versions: its numbers, one after the other.
use Prim.Native.Nat.{ℕ, zero, suc, ◌+◌, ◌*◌, ◌≤◌, ◌<◌}
use native.Mathlib.Omega.{arith}
use native.Mathlib.Nat.{add-zero}
use mathlib.Core.Path.{◌≡◌, refl, ap, ◌∙◌}
use mathlib.Core.List.{List}
use lib.ListN.{length, drop, get_or, length-append}
use lib.Seq.{drop-drop, get_or-drop}
use Rattle.wire.specs.Numbers.{bytes_of}
use Rattle.wire.proofs.Bytes.{length-bytes_of}
use Rattle.wire.specs.Values.{encode_item, encode_items, encode_elements}
use Rattle.message_layout.specs.Table.{items_of}
use Rattle.message_layout.specs.declared.Element.TheVariants.{Version}
use Rattle.message_lent.specs.Lent.{value_lent, first, firsts, rest, rests, rows}
use Rattle.message_lent.specs.Lists.{list_bytes, versions}
use Rattle.message_put.specs.Puts.{Put}
use Rattle.message_put.proofs.Chain.{After, none, then}
use Rattle.message_put.proofs.Rows.{Going, going_more, all_counted}

pub versions_more : (ns : List ℕ) {o o' o'' : List ℕ} {p p' p'' : ℕ} (i : ℕ)
    → Going (items_of Version) (length ns) (versions ns).1 o p i (versions (drop i ns)).1 o' p' → i < length ns
    → Put (bytes_of 8 (get_or ns i 0)) o' p' o'' p''
    → Going (items_of Version) (length ns) (versions ns).1 o p (i + 1) (versions (drop (i + 1) ns)).1 o'' p''
unfolding items_of versions firsts rests first rest encode_items encode_item
versions_more ns i g h f =
    going_more (items_of Version) (length ns) _ (versions (drop i ns)).1 g h ((get_or ns i 0, tt))
    (λ j. ((get_or-drop i ns 0 0 ∙ ap (λ (k : ℕ). get_or ns k 0) (add-zero i)) j, tt))
    (then f none)
    (versions (drop (i + 1) ns)).1
    (λ j. (drop-drop 1 i ns j, tt))

-- a version is eight bytes
versions-length : (n : ℕ) (ns : List ℕ) → length (encode_elements (items_of Version) (rows (items_of Version) n (versions ns).1)) ≡ n * 8
unfolding items_of versions rows firsts rests first rest encode_elements encode_items encode_item
versions-length zero ns = refl
versions-length (suc n) ns = simp (length-append, length-bytes_of, versions-length n (drop 1 ns)) (omega arith)

pub versions-counted : (ns : List ℕ) {a o : List ℕ} {q p r : ℕ} → Put (bytes_of 8 (length ns)) a q o p → length o ≤ p → After p (length ns * 8) r
    → Put (list_bytes Version (versions ns)) a q o r
unfolding list_bytes value_lent versions
versions-counted ns c h f =
    all_counted (items_of Version) (length ns) (versions ns).1 c h (f _ (versions-length (length ns) ns))
