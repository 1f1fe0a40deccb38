-- The round trip of each of the eleven writers, on one page. `EveryWriter` speaks of lists of numbers, so it supposes what the types of the arguments
-- say: `Typed` of what is lent to a writer, `Bytes` of what is read. The functions of src/writers have those types. For each request one
-- takes it and promises `BackAt` of any arguments, and `again` promises `EveryAgain` of any lent bytes: there nothing is left to suppose.
use Rattle.std.specs.Prelude.{Ok, ℕ, ◌≤◌, ◌≡◌, List, ◌++◌, length, take, drop}
use Rattle.wire.specs.Numbers.{Bytes}
use Rattle.message_read.specs.Reading.{accepted, reading}
use Rattle.message_lent.specs.Requests.{Request, connect_request, connect_reply, disconnect_request, disconnect_reply, discovery_request, topology_update, discovery_reply, service_reply, rollback_request, rollback_reply, dequeue_reply}
use Rattle.message_verdict.specs.Writing.{writing, written}
use Rattle.message_round_trip.specs.Back.{ConnectRequestTyped, ConnectReplyTyped, DisconnectRequestTyped, DisconnectReplyTyped, DiscoveryRequestTyped, TopologyUpdateTyped, DiscoveryReplyTyped, ServiceReplyTyped, RollbackRequestTyped, RollbackReplyTyped, DequeueReplyTyped}
use Rattle.message_round_trip.specs.Back.{ConnectRequestBack, ConnectReplyBack, DisconnectRequestBack, DisconnectReplyBack, DiscoveryRequestBack, TopologyUpdateBack, DiscoveryReplyBack, ServiceReplyBack, RollbackRequestBack, RollbackReplyBack, DequeueReplyBack}
use Rattle.message_round_trip.specs.Again.{Answers, answers, gather_connect_request, gather_connect_reply, gather_disconnect_request, gather_disconnect_reply, gather_discovery_request, gather_topology_update, gather_discovery_reply, gather_service_reply, gather_rollback_request, gather_rollback_reply, gather_dequeue_reply}

-- where a writer at version v, lent the request of q and the output `out`, answers that n bytes are written, they are read as accepted, of type t and
-- length n, and the calls on them hand back every argument
abbrev pub BackAt : (v t : ℕ) {Q : Type 0} → (Q → Request) → (List ℕ → Q → Type 0) → Q → List ℕ → Type 0
BackAt v t request Back q out =
    (n : ℕ) → writing v (request q) (length out) ≡ Ok n
    → (reading v (written v (request q) out) ≡ Ok (accepted t n)) × Back (written v (request q) out) q

-- that for every q and every output. `Typed` says what the types of the arguments say
abbrev pub GivenBack : (v t : ℕ) {Q : Type 0} → (Q → Request) → (Q → Type 0) → (List ℕ → Q → Type 0) → Type 0
GivenBack v t {Q} request Typed Back = (q : Q) (out : List ℕ) → Typed q → BackAt v t request Back q out

-- where m is accepted at version v, of type t and length n, what the calls on it hand back, gathered and lent to that type's writer, is written to the
-- same n bytes of `out`, if there is room, and not a byte after them is changed
abbrev pub AgainAt : (v t : ℕ) {Q : Type 0} → (Q → Request) → (Answers → Q) → List ℕ → List ℕ → Type 0
AgainAt v t request gather m out =
    (n : ℕ) → reading v m ≡ Ok (accepted t n) → n ≤ length out
    → (writing v (request (gather (answers v m))) (length out) ≡ Ok n)
    × (written v (request (gather (answers v m))) out ≡ take n m ++ drop n out)

-- that for each of the eleven types
pub record EveryAgain (v : ℕ) (m out : List ℕ) : Type 0 where
  pub connect_request_again : AgainAt v 7200 connect_request gather_connect_request m out
  pub connect_reply_again : AgainAt v 7201 connect_reply gather_connect_reply m out
  pub disconnect_request_again : AgainAt v 7202 disconnect_request gather_disconnect_request m out
  pub disconnect_reply_again : AgainAt v 7203 disconnect_reply gather_disconnect_reply m out
  pub discovery_request_again : AgainAt v 7300 discovery_request gather_discovery_request m out
  pub topology_update_again : AgainAt v 7302 topology_update gather_topology_update m out
  pub discovery_reply_again : AgainAt v 7311 discovery_reply gather_discovery_reply m out
  pub service_reply_again : AgainAt v 3103 service_reply gather_service_reply m out
  pub rollback_request_again : AgainAt v 5205 rollback_request gather_rollback_request m out
  pub rollback_reply_again : AgainAt v 5206 rollback_reply gather_rollback_reply m out
  pub dequeue_reply_again : AgainAt v 6201 dequeue_reply gather_dequeue_reply m out

-- both directions, for each of the eleven
pub record EveryWriter (v : ℕ) : Type 0 where
  pub connect_request_back : GivenBack v 7200 connect_request ConnectRequestTyped (ConnectRequestBack v)
  pub connect_reply_back : GivenBack v 7201 connect_reply ConnectReplyTyped (ConnectReplyBack v)
  pub disconnect_request_back : GivenBack v 7202 disconnect_request DisconnectRequestTyped (DisconnectRequestBack v)
  pub disconnect_reply_back : GivenBack v 7203 disconnect_reply DisconnectReplyTyped (DisconnectReplyBack v)
  pub discovery_request_back : GivenBack v 7300 discovery_request DiscoveryRequestTyped (DiscoveryRequestBack v)
  pub topology_update_back : GivenBack v 7302 topology_update TopologyUpdateTyped (TopologyUpdateBack v)
  pub discovery_reply_back : GivenBack v 7311 discovery_reply DiscoveryReplyTyped (DiscoveryReplyBack v)
  pub service_reply_back : GivenBack v 3103 service_reply ServiceReplyTyped (ServiceReplyBack v)
  pub rollback_request_back : GivenBack v 5205 rollback_request RollbackRequestTyped (RollbackRequestBack v)
  pub rollback_reply_back : GivenBack v 5206 rollback_reply RollbackReplyTyped (RollbackReplyBack v)
  pub dequeue_reply_back : GivenBack v 6201 dequeue_reply DequeueReplyTyped (DequeueReplyBack v)
  pub again : (m out : List ℕ) → Bytes m → EveryAgain v m out
