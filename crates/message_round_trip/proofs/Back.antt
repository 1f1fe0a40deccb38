-- For each writer: what the calls on what it wrote hand back is what was lent. The theorem for every request (Calls) is read at each role.
use Rattle.std.specs.Prelude.{Err, Ok}
use Prim.Native.Nat.{ℕ, ◌+◌, ◌<◌}
use native.Mathlib.Omega.{arith}
use mathlib.Core.Path.{◌≡◌, refl, ap, ◌∙◌}
use mathlib.Core.Bool.{Bool, true, false, cond, ◌&&◌}
use mathlib.Core.List.{List, [], ◌∷◌}
use lib.ListN.{length}
use lib.Dec.{eqb}
use borrow.Author.Tests.{eqb-true}
use Rattle.wire.specs.Replies.{number}
use Rattle.wire.specs.Contents.{data_of, xid_number}
use Rattle.wire.specs.declared.Fault.TheVariants.{NoElement}
use Rattle.wire.specs.declared.values.XidNumber.TheVariants.{FormatId, GtridLength, BqualLength}
use Rattle.wire.proofs.Parts.{both}
use Rattle.message_layout.specs.Roles.{Execution, DomainId, DomainName, ProtocolVersions, ProtocolVersion, Services, Queues, Domains, CodeResult, CodeUser, TransactionState, BufferType, BufferData, Xid, Resource, Flags, State, Messages, Offered, Name, Category, Transaction, Timeout, Hops, RetryCount, RetryDelay, Enqueue, Dequeue, Id, Properties, ReplyQueue, Available, DataType, Data, Redelivered, Timestamp}
use Rattle.message_layout.specs.Table.{layout, entries_of, items_of}
use Rattle.message_layout.specs.Message as layouts
use Rattle.message_layout.specs.declared.Element.{Element}
use Rattle.message_layout.specs.declared.Element.TheVariants.{Version, ServiceName, QueueName, Domain, Service, Queue, Message}
use Rattle.message_read.specs.Reading.{reading}
use Rattle.message_fields.specs.Contents.{xid, list, content_bytes, content_reply, content_number, content_xid, content_count, no_element}
use Rattle.message_lists.specs.Elements.{count_of, element_part, element_reply, element_value}
use Rattle.message_choice.specs.Choice.{chosen}
use Rattle.message_lent.specs.Lent.{Columns, rows, firsts, rests, first, rest, LentXid, lent_xid, xid_lent, xid_agrees, value_lent, values_lent, agrees, all_agree, item_agrees}
use Rattle.message_lent.specs.Lists.{versions, service_names, queue_names, domains, services, queues, messages}
use Rattle.message_lent.specs.Requests.{connect_request, connect_reply, disconnect_request, disconnect_reply, discovery_request, topology_update, discovery_reply, service_reply, rollback_request, rollback_reply, dequeue_reply}
use Rattle.message_lent.proofs.Valid.{length-rows}
use Rattle.message_verdict.specs.Writing.{agreeing}
use Rattle.message_agree.specs.Contents.{content_of, content_in, as_fields, element_content, content_element, element_numbers}
use Rattle.message_round_trip.specs.Back.{ConnectRequestTyped, ConnectReplyTyped, DisconnectRequestTyped, DisconnectReplyTyped, DiscoveryRequestTyped, TopologyUpdateTyped, DiscoveryReplyTyped, ServiceReplyTyped, RollbackRequestTyped, RollbackReplyTyped, DequeueReplyTyped}
use Rattle.message_round_trip.specs.Back.{GivesXid, ConnectRequestBack, ConnectReplyBack, DisconnectRequestBack, DisconnectReplyBack, DiscoveryRequestBack, TopologyUpdateBack, DiscoveryReplyBack, ServiceReplyBack, RollbackRequestBack, RollbackReplyBack, DequeueReplyBack}
use Rattle.message_round_trip.specs.Every.{GivenBack}
use Rattle.message_round_trip.proofs.RoundTrip.{passed, written_agreed}
use Rattle.message_round_trip.proofs.Calls.{Given, written-given}
use Rattle.message_round_trip.proofs.Rows.{element_lent, of_rows}
use Rattle.message_round_trip.proofs.Typed.{connect_request_typed, connect_reply_typed, disconnect_request_typed, disconnect_reply_typed, discovery_request_typed, topology_update_typed, discovery_reply_typed, service_reply_typed, rollback_request_typed, rollback_reply_typed, dequeue_reply_typed}

-- ---- without lists

pub disconnect_request_back_lem : (v : ℕ) → GivenBack v 7202 disconnect_request DisconnectRequestTyped (DisconnectRequestBack v)
unfolding disconnect_request layout entries_of content_in content_of values_lent value_lent
disconnect_request_back_lem v q out t n h =
    let g = written-given v (disconnect_request q) out n (disconnect_request_typed t) h in
    (g.accepted, record { correlation = g.correlation; execution = g.bytes Execution })

pub disconnect_reply_back_lem : (v : ℕ) → GivenBack v 7203 disconnect_reply DisconnectReplyTyped (DisconnectReplyBack v)
unfolding disconnect_reply layout entries_of content_in content_of values_lent value_lent
disconnect_reply_back_lem v q out t n h =
    let g = written-given v (disconnect_reply q) out n (disconnect_reply_typed t) h in
    (g.accepted, record { correlation = g.correlation; execution = g.bytes Execution })

pub connect_reply_back_lem : (v : ℕ) → GivenBack v 7201 connect_reply ConnectReplyTyped (ConnectReplyBack v)
unfolding connect_reply layout entries_of content_in content_of values_lent value_lent
connect_reply_back_lem v q out t n h =
    let g = written-given v (connect_reply q) out n (connect_reply_typed t) h in (
      g.accepted,
      record {
        correlation = g.correlation;
        execution = g.bytes Execution;
        domain_id = g.bytes DomainId;
        domain_name = g.bytes DomainName;
        version = g.value ProtocolVersion;
      },
    )

pub service_reply_back_lem : (v : ℕ) → GivenBack v 3103 service_reply ServiceReplyTyped (ServiceReplyBack v)
unfolding service_reply layout entries_of content_in content_of values_lent value_lent
service_reply_back_lem v q out t n h =
    let g = written-given v (service_reply q) out n (service_reply_typed t) h in (
      g.accepted,
      record {
        correlation = g.correlation;
        execution = g.bytes Execution;
        code_result = g.value CodeResult;
        code_user = g.value CodeUser;
        transaction_state = g.value TransactionState;
        buffer_type = g.bytes BufferType;
        buffer_data = g.bytes BufferData;
      },
    )

-- ---- with an xid

nothing : (l : List ℕ) → length l ≡ 0 → [] ≡ l
nothing [] h = refl
nothing (x ∷ l) h = absurd (omega arith)

-- an xid that agrees is lent as it is; with formatID 0 its lengths are 0 and there is no data
record XidLent (x : LentXid) : Type 0 where
  format : xid_number FormatId (xid_lent x) ≡ x.format
  gtrid : xid_number GtridLength (xid_lent x) ≡ x.gtrid
  bqual : xid_number BqualLength (xid_lent x) ≡ x.bqual
  bytes : data_of (xid_lent x) ≡ x.bytes

xid_lent_lem : (x : LentXid) → xid_agrees x ≡ true → XidLent x
unfolding xid_agrees xid_lent
xid_lent_lem x h = go (eqb x.format 0) refl (both (eqb (x.gtrid + x.bqual) (length x.bytes)) (cond (eqb x.format 0) (eqb (length x.bytes) 0) true) h)
  where
    go : (z : Bool) → eqb x.format 0 ≡ z
        → (eqb (x.gtrid + x.bqual) (length x.bytes) ≡ true) × (cond (eqb x.format 0) (eqb (length x.bytes) 0) true ≡ true) → XidLent x
    go true e k =
        let f : x.format ≡ 0 = eqb-true x.format 0 e in
        let s : x.gtrid + x.bqual ≡ length x.bytes = eqb-true (x.gtrid + x.bqual) (length x.bytes) k.0 in
        let l : length x.bytes ≡ 0 = eqb-true (length x.bytes) 0 (rw e at k.1) in
        record { format = rw e (omega arith); gtrid = rw e (omega arith); bqual = rw e (omega arith); bytes = rw e (nothing x.bytes l) }
    go false e k = record { format = rw e; gtrid = rw e; bqual = rw e; bytes = rw e }

-- the calls for an xid
xid_given : (v : ℕ) (m : List ℕ) (t n : ℕ) (x : layouts.Message) → Given v m t n x → (y : LentXid) → content_in Xid x ≡ xid (xid_lent y)
    → XidLent y → GivesXid v m y.format y.gtrid y.bqual y.bytes
xid_given v m t n x g y c z =
    record {
      format_id = g.xid_value FormatId ∙ ap (content_xid FormatId) c ∙ ap (λ (k : ℕ). Ok k) z.format;
      gtrid_length = g.xid_value GtridLength ∙ ap (content_xid GtridLength) c ∙ ap (λ (k : ℕ). Ok k) z.gtrid;
      bqual_length = g.xid_value BqualLength ∙ ap (content_xid BqualLength) c ∙ ap (λ (k : ℕ). Ok k) z.bqual;
      xid_data = ((g.bytes Xid).0 ∙ ap content_bytes c ∙ z.bytes, (g.bytes Xid).1 ∙ ap content_reply c);
    }

-- an xid that stands after the execution id of a request that was written
xid_agreed : (c e : Bool) (x : LentXid) (z : Bool) → (c && (e && (xid_agrees x && z))) ≡ true → XidLent x
xid_agreed c e x z h = xid_lent_lem x (both (xid_agrees x) z (both e (xid_agrees x && z) (both c (e && (xid_agrees x && z)) h).1).1).0

pub rollback_request_back_lem : (v : ℕ) → GivenBack v 5205 rollback_request RollbackRequestTyped (RollbackRequestBack v)
unfolding rollback_request layout entries_of content_in content_of values_lent value_lent agreeing all_agree agrees item_agrees
rollback_request_back_lem v q out t n h =
    let g = written-given v (rollback_request q) out n (rollback_request_typed t) h in
    let y : LentXid = lent_xid q.format_id q.gtrid_length q.bqual_length q.xid_data in (
      g.accepted,
      record {
        correlation = g.correlation;
        execution = g.bytes Execution;
        xid = xid_given v _ 5205 n _ g y refl (xid_agreed (eqb (length q.correlation) 16) (eqb (length q.execution) 16) y true (passed v (rollback_request q) (length out) n h).agrees);
        resource = g.value Resource;
        flags = g.value Flags;
      },
    )

pub rollback_reply_back_lem : (v : ℕ) → GivenBack v 5206 rollback_reply RollbackReplyTyped (RollbackReplyBack v)
unfolding rollback_reply layout entries_of content_in content_of values_lent value_lent agreeing all_agree agrees item_agrees
rollback_reply_back_lem v q out t n h =
    let g = written-given v (rollback_reply q) out n (rollback_reply_typed t) h in
    let y : LentXid = lent_xid q.format_id q.gtrid_length q.bqual_length q.xid_data in (
      g.accepted,
      record {
        correlation = g.correlation;
        execution = g.bytes Execution;
        xid = xid_given v _ 5206 n _ g y refl (xid_agreed (eqb (length q.correlation) 16) (eqb (length q.execution) 16) y true (passed v (rollback_reply q) (length out) n h).agrees);
        resource = g.value Resource;
        state = g.value State;
      },
    )

-- ---- with lists

-- the calls for the elements of a list that is lent as k rows of columns give the items of the columns
module _ (v : ℕ) (m : List ℕ) (t n : ℕ) (x : layouts.Message) (g : Given v m t n x)
    (l : ℕ) (e : Element) (k : ℕ) (cs : Columns (items_of e)) (c : content_in l x ≡ list e (rows (items_of e) k cs)) where
  listed_count : count_of (reading v m) l m ≡ Ok k
  listed_count = g.count l ∙ ap content_count c ∙ ap (λ (k : ℕ). Ok k) (length-rows (items_of e) k cs)

  listed_part : (r i : ℕ) → i < k
      → (element_part (reading v m) l i r m ≡ content_bytes (element_content r e (element_lent (items_of e) cs i)))
      × (element_reply (reading v m) l i r m ≡ content_reply (element_content r e (element_lent (items_of e) cs i)))
  listed_part r i h = (
    (g.element_bytes l i r).0 ∙ ap (content_element [] content_bytes i r) c
        ∙ of_rows [] (items_of e) (λ y. content_bytes (element_content r e y)) k cs i h,
    (g.element_bytes l i r).1 ∙ ap (content_element (number NoElement) content_reply i r) c
        ∙ of_rows (number NoElement) (items_of e) (λ y. content_reply (element_content r e y)) k cs i h,
  )

  listed_number : (r i : ℕ) → i < k → element_value (reading v m) l i r m ≡ content_number (element_content r e (element_lent (items_of e) cs i))
  listed_number r i h =
      g.element_number l i r ∙ ap (content_element (Err no_element) content_number i r) c
      ∙ of_rows (Err no_element) (items_of e) (λ y. content_number (element_content r e y)) k cs i h

pub topology_update_back_lem : (v : ℕ) → GivenBack v 7302 topology_update TopologyUpdateTyped (TopologyUpdateBack v)
unfolding topology_update layout entries_of content_in content_of values_lent value_lent domains items_of element_content as_fields
topology_update_back_lem v q out t n h =
    let g = written-given v (topology_update q) out n (topology_update_typed t) h in
    let a = (written_agreed v (topology_update q) (length out) n h).1.0 in
    let k = length q.domain_name_lengths in
    let cs : Columns (items_of Domain) = (q.domain_ids, ((q.domain_name_lengths, q.domain_names), tt)) in (
      g.accepted,
      record {
        correlation = g.correlation;
        execution = g.bytes Execution;
        domains = listed_count v _ 7302 n _ g Domains Domain k cs refl;
        domain_ids = (a.0, listed_part v _ 7302 n _ g Domains Domain k cs refl Id);
        domain_names = (a.1.0.0, a.1.0.1, listed_part v _ 7302 n _ g Domains Domain k cs refl Name);
      },
    )

-- the versions lent are the offers
offers_lent : (ns : List ℕ) → element_numbers Offered Version (rows (items_of Version) (length ns) (versions ns).1) ≡ ns
unfolding versions items_of rows firsts rests first rest element_numbers element_content content_of as_fields
offers_lent [] = refl
offers_lent (n ∷ ns) = ap (λ (l : List ℕ). n ∷ l) (offers_lent ns)

pub connect_request_back_lem : (v : ℕ) → GivenBack v 7200 connect_request ConnectRequestTyped (ConnectRequestBack v)
unfolding connect_request layout entries_of content_in content_of values_lent value_lent versions items_of element_content as_fields
connect_request_back_lem v q out t n h =
    let g = written-given v (connect_request q) out n (connect_request_typed t) h in
    let k = length q.versions in
    let cs : Columns (items_of Version) = (q.versions, tt) in (
      g.accepted,
      record {
        correlation = g.correlation;
        execution = g.bytes Execution;
        domain_id = g.bytes DomainId;
        domain_name = g.bytes DomainName;
        count = listed_count v _ 7200 n _ g ProtocolVersions Version k cs refl;
        versions = (refl, listed_number v _ 7200 n _ g ProtocolVersions Version k cs refl Offered);
        choice = g.choice ∙ ap chosen (offers_lent q.versions);
      },
    )

pub discovery_request_back_lem : (v : ℕ) → GivenBack v 7300 discovery_request DiscoveryRequestTyped (DiscoveryRequestBack v)
unfolding discovery_request layout entries_of content_in content_of values_lent value_lent service_names queue_names items_of element_content as_fields
discovery_request_back_lem v q out t n h =
    let g = written-given v (discovery_request q) out n (discovery_request_typed t) h in
    let a = (written_agreed v (discovery_request q) (length out) n h).1.1.1 in
    let k = length q.service_name_lengths in
    let cs : Columns (items_of ServiceName) = ((q.service_name_lengths, q.service_names), tt) in
    let j = length q.queue_name_lengths in
    let ds : Columns (items_of QueueName) = ((q.queue_name_lengths, q.queue_names), tt) in (
      g.accepted,
      record {
        correlation = g.correlation;
        execution = g.bytes Execution;
        domain_id = g.bytes DomainId;
        domain_name = g.bytes DomainName;
        services = listed_count v _ 7300 n _ g Services ServiceName k cs refl;
        service_names = (a.0.0.0, a.0.0.1, listed_part v _ 7300 n _ g Services ServiceName k cs refl Name);
        queues = listed_count v _ 7300 n _ g Queues QueueName j ds refl;
        queue_names = (a.1.0.0.0, a.1.0.0.1, listed_part v _ 7300 n _ g Queues QueueName j ds refl Name);
      },
    )

pub discovery_reply_back_lem : (v : ℕ) → GivenBack v 7311 discovery_reply DiscoveryReplyTyped (DiscoveryReplyBack v)
unfolding discovery_reply layout entries_of content_in content_of values_lent value_lent services queues items_of element_content as_fields
discovery_reply_back_lem v q out t n h =
    let g = written-given v (discovery_reply q) out n (discovery_reply_typed t) h in
    let a = (written_agreed v (discovery_reply q) (length out) n h).1.1.1.0 in
    let b = (written_agreed v (discovery_reply q) (length out) n h).1.1.1.1.0 in
    let k = length q.service_name_lengths in
    let cs : Columns (items_of Service) = ((q.service_name_lengths, q.service_names), ((q.category_lengths, q.categories), (q.modes, (q.timeouts, (q.hops, tt))))) in
    let j = length q.queue_name_lengths in
    let ds : Columns (items_of Queue) = ((q.queue_name_lengths, q.queue_names), (q.retry_counts, (q.retry_delays, (q.enqueues, (q.dequeues, tt))))) in (
      g.accepted,
      record {
        correlation = g.correlation;
        execution = g.bytes Execution;
        domain_id = g.bytes DomainId;
        domain_name = g.bytes DomainName;
        services = listed_count v _ 7311 n _ g Services Service k cs refl;
        service_names = (a.0.0, a.0.1, listed_part v _ 7311 n _ g Services Service k cs refl Name);
        categories = (a.1.0.0, a.1.0.1, listed_part v _ 7311 n _ g Services Service k cs refl Category);
        modes = (a.1.1.0, listed_number v _ 7311 n _ g Services Service k cs refl Transaction);
        timeouts = (a.1.1.1.0, listed_number v _ 7311 n _ g Services Service k cs refl Timeout);
        hops = (a.1.1.1.1.0, listed_number v _ 7311 n _ g Services Service k cs refl Hops);
        queues = listed_count v _ 7311 n _ g Queues Queue j ds refl;
        queue_names = (b.0.0, b.0.1, listed_part v _ 7311 n _ g Queues Queue j ds refl Name);
        retry_counts = (b.1.0, listed_number v _ 7311 n _ g Queues Queue j ds refl RetryCount);
        retry_delays = (b.1.1.0, listed_number v _ 7311 n _ g Queues Queue j ds refl RetryDelay);
        enqueues = (b.1.1.1.0, listed_number v _ 7311 n _ g Queues Queue j ds refl Enqueue);
        dequeues = (b.1.1.1.1.0, listed_number v _ 7311 n _ g Queues Queue j ds refl Dequeue);
      },
    )

pub dequeue_reply_back_lem : (v : ℕ) → GivenBack v 6201 dequeue_reply DequeueReplyTyped (DequeueReplyBack v)
unfolding dequeue_reply layout entries_of content_in content_of values_lent value_lent messages items_of element_content as_fields
dequeue_reply_back_lem v q out t n h =
    let g = written-given v (dequeue_reply q) out n (dequeue_reply_typed t) h in
    let a = (written_agreed v (dequeue_reply q) (length out) n h).1.0 in
    let k = length q.properties_lengths in
    let cs : Columns (items_of Message) = (
      q.ids,
      (
        (q.properties_lengths, q.properties),
        (
          (q.reply_queue_lengths, q.reply_queues),
          (q.availables, ((q.data_type_lengths, q.data_types), ((q.data_lengths, q.data_bytes), (q.redelivereds, (q.timestamps, tt))))),
        ),
      ),
    ) in (
      g.accepted,
      record {
        correlation = g.correlation;
        execution = g.bytes Execution;
        messages = listed_count v _ 6201 n _ g Messages Message k cs refl;
        ids = (a.0, listed_part v _ 6201 n _ g Messages Message k cs refl Id);
        properties = (a.1.0.0, a.1.0.1, listed_part v _ 6201 n _ g Messages Message k cs refl Properties);
        reply_queues = (a.1.1.0.0, a.1.1.0.1, listed_part v _ 6201 n _ g Messages Message k cs refl ReplyQueue);
        availables = (a.1.1.1.0, listed_number v _ 6201 n _ g Messages Message k cs refl Available);
        data_types = (a.1.1.1.1.0.0, a.1.1.1.1.0.1, listed_part v _ 6201 n _ g Messages Message k cs refl DataType);
        data_bytes = (a.1.1.1.1.1.0.0, a.1.1.1.1.1.0.1, listed_part v _ 6201 n _ g Messages Message k cs refl Data);
        redelivereds = (a.1.1.1.1.1.1.0, listed_number v _ 6201 n _ g Messages Message k cs refl Redelivered);
        timestamps = (a.1.1.1.1.1.1.1.0, listed_number v _ 6201 n _ g Messages Message k cs refl Timestamp);
      },
    )
