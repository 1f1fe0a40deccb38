-- A list of queue names has the bytes of a list of service names.
use Prim.Native.Nat.{ℕ, zero, suc}
use mathlib.Core.Path.{◌≡◌, refl, ap}
use mathlib.Core.List.{List, [], ◌++◌}
use lib.ListN.{length, drop, take, get_or}
use Rattle.wire.specs.declared.Item.TheVariants.{Str}
use Rattle.wire.specs.Values.{encode_item, encode_items, encode_elements, encode_field}
use Rattle.message_layout.specs.Table.{items_of}
use Rattle.message_layout.specs.declared.Element.TheVariants.{ServiceName, QueueName}
use Rattle.message_lent.specs.Lent.{value_lent, first, firsts, rest, rests, rows}
use Rattle.message_lent.specs.Lists.{list_bytes, service_names, queue_names}
use Rattle.message_lent.proofs.Valid.{length-rows}
use Rattle.message_put.specs.Puts.{Put}

names_same : (n : ℕ) (ls run : List ℕ)
    → encode_elements (items_of ServiceName) (rows (items_of ServiceName) n (service_names ls run).1) ≡ encode_elements (items_of QueueName) (rows (items_of QueueName) n (queue_names ls run).1)
unfolding items_of service_names queue_names rows firsts rests first rest encode_elements encode_items
names_same zero ls run = refl
names_same (suc n) ls run =
    ap (λ (t : List ℕ). (encode_item Str (take (get_or ls 0 0) run) ++ []) ++ t) (names_same n (drop 1 ls) (drop (get_or ls 0 0) run))

pub queue_names_lem : (ls run : List ℕ) {o o' : List ℕ} {p p' : ℕ} → Put (list_bytes ServiceName (service_names ls run)) o p o' p'
    → Put (list_bytes QueueName (queue_names ls run)) o p o' p'
unfolding list_bytes value_lent encode_field service_names queue_names
queue_names_lem ls run h =
    rw (length-rows (items_of QueueName) (length ls) _, ← names_same (length ls) ls run)
    (rw (length-rows (items_of ServiceName) (length ls) _) at h)
