-- The round trip of each of the eleven writers.
use Prim.Native.Nat.{ℕ}
use Rattle.message_round_trip.specs.Every.{EveryWriter}
use Rattle.message_round_trip.proofs.Back.{connect_request_back_lem, connect_reply_back_lem, disconnect_request_back_lem, disconnect_reply_back_lem, discovery_request_back_lem, topology_update_back_lem, discovery_reply_back_lem, service_reply_back_lem, rollback_request_back_lem, rollback_reply_back_lem, dequeue_reply_back_lem}
use Rattle.message_round_trip.proofs.Again.{connect_request_again_lem, connect_reply_again_lem, disconnect_request_again_lem, disconnect_reply_again_lem, discovery_request_again_lem, topology_update_again_lem, discovery_reply_again_lem, service_reply_again_lem, rollback_request_again_lem, rollback_reply_again_lem, dequeue_reply_again_lem}

pub every_writer : (v : ℕ) → EveryWriter v
every_writer v =
    record {
      connect_request_back = connect_request_back_lem v;
      connect_reply_back = connect_reply_back_lem v;
      disconnect_request_back = disconnect_request_back_lem v;
      disconnect_reply_back = disconnect_reply_back_lem v;
      discovery_request_back = discovery_request_back_lem v;
      topology_update_back = topology_update_back_lem v;
      discovery_reply_back = discovery_reply_back_lem v;
      service_reply_back = service_reply_back_lem v;
      rollback_request_back = rollback_request_back_lem v;
      rollback_reply_back = rollback_reply_back_lem v;
      dequeue_reply_back = dequeue_reply_back_lem v;
      again = λ m out b.
          record {
            connect_request_again = connect_request_again_lem v m out b;
            connect_reply_again = connect_reply_again_lem v m out b;
            disconnect_request_again = disconnect_request_again_lem v m out b;
            disconnect_reply_again = disconnect_reply_again_lem v m out b;
            discovery_request_again = discovery_request_again_lem v m out b;
            topology_update_again = topology_update_again_lem v m out b;
            discovery_reply_again = discovery_reply_again_lem v m out b;
            service_reply_again = service_reply_again_lem v m out b;
            rollback_request_again = rollback_request_again_lem v m out b;
            rollback_reply_again = rollback_reply_again_lem v m out b;
            dequeue_reply_again = dequeue_reply_again_lem v m out b;
          };
    }
