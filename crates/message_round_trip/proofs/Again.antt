-- For each writer: what the calls on an accepted message hand back, gathered, is the message as it is lent; so it is written to the same bytes.
use Rattle.std.specs.Prelude.{Err, Ok}
use Prim.Native.Nat.{ℕ}
use mathlib.Core.Path.{◌≡◌, refl, sym, ap, ◌∙◌, subst}
use mathlib.Core.List.{List, [], ◌∷◌, ◌++◌, map, map-map}
use lib.ListN.{length, take, drop, length-map}
use Rattle.wire.specs.Numbers.{Bytes}
use Rattle.wire.specs.Values.{Xid, null, branch, FieldVals}
use Rattle.wire.specs.Contents.{data_of, xid_number}
use Rattle.wire.specs.declared.values.XidNumber.TheVariants.{FormatId, GtridLength, BqualLength}
use Rattle.message_layout.specs.Roles as role
use Rattle.message_layout.specs.Table.{layout, entries_of, items_of}
use Rattle.message_layout.specs.Message.{Message, message_in}
use Rattle.message_read.specs.Reading.{accepted, reading}
use Rattle.message_read.proofs.Exact.{accepted_valid}
use Rattle.message_fields.specs.Contents.{content_bytes, content_number, content_xid, content_count, no_element}
use Rattle.message_fields.specs.Fields.{value_of}
use Rattle.message_fields.specs.Contents.{Value}
use Rattle.message_lent.specs.Lent.{lent_xid}
use Rattle.message_lent.specs.Lists.{versions, service_names, queue_names, domains, services, queues, messages}
use Rattle.message_lent.specs.Lending.{lend, lend_xid, lend_field, lend_fields, lend_column, lend_columns}
use Rattle.message_lent.specs.Requests.{Request, connect_request, connect_reply, disconnect_request, disconnect_reply, discovery_request, topology_update, discovery_reply, service_reply, rollback_request, rollback_reply, dequeue_reply}
use Rattle.message_verdict.specs.Writing.{writing, written}
use Rattle.message_agree.specs.Contents.{content_of, content_in, as_fields, element_content, content_element, of_element}
use Rattle.message_round_trip.specs.Again.{each, Answers, answers, gather_connect_request, gather_connect_reply, gather_disconnect_request, gather_disconnect_reply, gather_discovery_request, gather_topology_update, gather_discovery_reply, gather_service_reply, gather_rollback_request, gather_rollback_reply, gather_dequeue_reply}
use Rattle.message_round_trip.specs.Every.{AgainAt}
use Rattle.message_round_trip.proofs.RoundTrip.{read_rewritten}
use Rattle.message_round_trip.proofs.Calls.{accepted_given}

-- ---- the answers are those of the message that the bytes hold

-- the answers on a message, by its values
abbrev answers_of : Message → Answers
answers_of x =
    record {
      correlation = x.correlation;
      part = λ r. content_bytes (content_in r x);
      number = λ r. value_of (content_number (content_in r x));
      xid = λ y. value_of (content_xid y (content_in role.Xid x));
      parts = λ l r. each (value_of (content_count (content_in l x))) (λ i. content_element [] content_bytes i r (content_in l x));
      numbers = λ l r. each (value_of (content_count (content_in l x))) (λ i. value_of (content_element (Err no_element) content_number i r (content_in l x)));
    }

answers_agree : (v : ℕ) (m : List ℕ) (t n : ℕ) → reading v m ≡ Ok (accepted t n) → answers v m ≡ answers_of (message_in m)
answers_agree v m t n h = λ j.
    let g = accepted_given v m t n h in
    record {
      correlation = g.correlation j;
      part = λ r. (g.bytes r).0 j;
      number = λ r. value_of (g.value r j);
      xid = λ y. value_of (g.xid_value y j);
      parts = λ l r. each (value_of (g.count l j)) (λ i. (g.element_bytes l i r).0 j);
      numbers = λ l r. each (value_of (g.count l j)) (λ i. value_of (g.element_number l i r j));
    }

-- ---- gathered answers that are the message as it is lent

-- of every message of type t
abbrev Gathered : ℕ → {Q : Type 0} → (Q → Request) → (Answers → Q) → Type 0
Gathered t request gather =
    (c : List ℕ) (w : FieldVals (layout t))
    → request (gather (answers_of (record { kind = t; correlation = c; values = w }))) ≡ lend (record { kind = t; correlation = c; values = w })

-- AgainAt, for every m that holds bytes and every output
abbrev WrittenAgain : (v t : ℕ) {Q : Type 0} → (Q → Request) → (Answers → Q) → Type 0
WrittenAgain v t request gather = (m out : List ℕ) → Bytes m → AgainAt v t request gather m out

written_again : {Q : Type 0} (v t : ℕ) (request : Q → Request) (gather : Answers → Q) → Gathered t request gather → WrittenAgain v t request gather
written_again v t request gather same m out b n h r =
    let x : Message = message_in m in
    let k : t ≡ x.kind = sym (accepted_valid v m t n b h).2 in
    let e : request (gather (answers_of x)) ≡ lend x =
    subst
    (λ (u : ℕ). (w : FieldVals (layout u))
    → request (gather (answers_of (record { kind = u; correlation = x.correlation; values = w }))) ≡ lend (record { kind = u; correlation = x.correlation; values = w }))
    k (same x.correlation) x.values in
    let q : request (gather (answers v m)) ≡ lend x = ap (λ (a : Answers). request (gather a)) (answers_agree v m t n h) ∙ e in
    subst (λ (y : Request). (writing v y (length out) ≡ Ok n) × (written v y out ≡ take n m ++ drop n out)) (sym q) (read_rewritten v m t n b h out r)

-- ---- without lists

pub disconnect_request_again_lem : (v : ℕ) → WrittenAgain v 7202 disconnect_request gather_disconnect_request
unfolding disconnect_request layout entries_of content_in content_of lend_fields lend_field
disconnect_request_again_lem v = written_again v 7202 disconnect_request gather_disconnect_request (λ c w. refl)

pub disconnect_reply_again_lem : (v : ℕ) → WrittenAgain v 7203 disconnect_reply gather_disconnect_reply
unfolding disconnect_reply layout entries_of content_in content_of lend_fields lend_field
disconnect_reply_again_lem v = written_again v 7203 disconnect_reply gather_disconnect_reply (λ c w. refl)

pub connect_reply_again_lem : (v : ℕ) → WrittenAgain v 7201 connect_reply gather_connect_reply
unfolding connect_reply layout entries_of content_in content_of lend_fields lend_field
connect_reply_again_lem v = written_again v 7201 connect_reply gather_connect_reply (λ c w. refl)

pub service_reply_again_lem : (v : ℕ) → WrittenAgain v 3103 service_reply gather_service_reply
unfolding service_reply layout entries_of content_in content_of lend_fields lend_field
service_reply_again_lem v = written_again v 3103 service_reply gather_service_reply (λ c w. refl)

-- ---- with an xid

xid_gathered : (x : Xid) → lent_xid (xid_number FormatId x) (xid_number GtridLength x) (xid_number BqualLength x) (data_of x) ≡ lend_xid x
unfolding lend_xid
xid_gathered null = refl
xid_gathered (branch f g b d) = refl

pub rollback_request_again_lem : (v : ℕ) → WrittenAgain v 5205 rollback_request gather_rollback_request
unfolding rollback_request layout entries_of content_in content_of lend_fields lend_field
rollback_request_again_lem v =
    written_again v 5205 rollback_request gather_rollback_request
    (λ c w. λ j. record { kind = 5205; correlation = c; lent = (w.0, (xid_gathered w.1.0 j, (w.1.1.0, (w.1.1.1.0, tt)))) })

pub rollback_reply_again_lem : (v : ℕ) → WrittenAgain v 5206 rollback_reply gather_rollback_reply
unfolding rollback_reply layout entries_of content_in content_of lend_fields lend_field
rollback_reply_again_lem v =
    written_again v 5206 rollback_reply gather_rollback_reply
    (λ c w. λ j. record { kind = 5206; correlation = c; lent = (w.0, (xid_gathered w.1.0 j, (w.1.1.0, (w.1.1.1.0, tt)))) })

-- ---- with lists

-- what f gives for each element
each_of : {A B : Type 0} (d : B) (f : A → B) (xs : List A) → each (length xs) (λ i. of_element d f i xs) ≡ map f xs
unfolding each of_element
each_of d f [] = refl
each_of d f (x ∷ xs) = ap (λ (l : List _). f x ∷ l) (each_of d f xs)

each_number : {A : Type 0} (d : Value) (f : A → Value) (xs : List A) → each (length xs) (λ i. value_of (of_element d f i xs)) ≡ map (λ x. value_of (f x)) xs
unfolding each of_element
each_number d f [] = refl
each_number d f (x ∷ xs) = ap (λ (l : List ℕ). value_of (f x) ∷ l) (each_number d f xs)

pub connect_request_again_lem : (v : ℕ) → WrittenAgain v 7200 connect_request gather_connect_request
unfolding connect_request layout entries_of content_in content_of lend_fields lend_field lend_columns lend_column versions items_of element_content as_fields
connect_request_again_lem v = written_again v 7200 connect_request gather_connect_request (λ c w. simp (each_number, length-map))

pub discovery_request_again_lem : (v : ℕ) → WrittenAgain v 7300 discovery_request gather_discovery_request
unfolding discovery_request layout entries_of content_in content_of lend_fields lend_field lend_columns lend_column service_names queue_names items_of element_content as_fields
discovery_request_again_lem v = written_again v 7300 discovery_request gather_discovery_request (λ c w. simp (each_of, length-map, map-map))

pub topology_update_again_lem : (v : ℕ) → WrittenAgain v 7302 topology_update gather_topology_update
unfolding topology_update layout entries_of content_in content_of lend_fields lend_field lend_columns lend_column domains items_of element_content as_fields
topology_update_again_lem v = written_again v 7302 topology_update gather_topology_update (λ c w. simp (each_of, length-map, map-map))

pub discovery_reply_again_lem : (v : ℕ) → WrittenAgain v 7311 discovery_reply gather_discovery_reply
unfolding discovery_reply layout entries_of content_in content_of lend_fields lend_field lend_columns lend_column services queues items_of element_content as_fields
discovery_reply_again_lem v = written_again v 7311 discovery_reply gather_discovery_reply (λ c w. simp (each_of, each_number, length-map, map-map))

pub dequeue_reply_again_lem : (v : ℕ) → WrittenAgain v 6201 dequeue_reply gather_dequeue_reply
unfolding dequeue_reply layout entries_of content_in content_of lend_fields lend_field lend_columns lend_column messages items_of element_content as_fields
dequeue_reply_again_lem v = written_again v 6201 dequeue_reply gather_dequeue_reply (λ c w. simp (each_of, each_number, length-map, map-map))
