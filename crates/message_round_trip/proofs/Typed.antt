-- What the types of a writer's arguments say is what the theorems for every request ask of it.
use Prim.Native.Nat.{ℕ, ◌<◌}
use native.Mathlib.Omega.{arith}
use mathlib.Core.Path.{◌≡◌}
use Rattle.message_layout.specs.Table.{layout, entries_of, items_of, any_value}
use Rattle.message_lent.specs.Lists.{versions, service_names, queue_names, domains, services, queues, messages}
use Rattle.message_lent.specs.Lending.{RequestTyped}
use Rattle.message_lent.specs.Requests.{ConnectRequest, connect_request, ConnectReply, connect_reply, DisconnectRequest, disconnect_request, DisconnectReply, disconnect_reply, DiscoveryRequest, discovery_request, TopologyUpdate, topology_update, DiscoveryReply, discovery_reply, ServiceReply, service_reply, RollbackRequest, rollback_request, RollbackReply, rollback_reply, DequeueReply, dequeue_reply}
use Rattle.message_round_trip.specs.Back.{ConnectRequestTyped, ConnectReplyTyped, DisconnectRequestTyped, DisconnectReplyTyped, DiscoveryRequestTyped, TopologyUpdateTyped, DiscoveryReplyTyped, ServiceReplyTyped, RollbackRequestTyped, RollbackReplyTyped, DequeueReplyTyped}

pub connect_request_typed : {q : ConnectRequest} → ConnectRequestTyped q → RequestTyped (connect_request q)
unfolding connect_request layout entries_of items_of versions
connect_request_typed t =
    (t.ids.0, (t.ids.1, (t.domain.0, (t.domain.1, ((λ _. t.versions.0, (λ _. t.versions.1, tt)), tt)))))

pub connect_reply_typed : {q : ConnectReply} → ConnectReplyTyped q → RequestTyped (connect_reply q)
unfolding connect_reply layout entries_of
connect_reply_typed t = (t.ids.0, (t.ids.1, (t.domain.0, (t.domain.1, (λ _. t.version, tt)))))

pub disconnect_request_typed : {q : DisconnectRequest} → DisconnectRequestTyped q → RequestTyped (disconnect_request q)
unfolding disconnect_request layout entries_of
disconnect_request_typed t = (t.ids.0, (t.ids.1, tt))

pub disconnect_reply_typed : {q : DisconnectReply} → DisconnectReplyTyped q → RequestTyped (disconnect_reply q)
unfolding disconnect_reply layout entries_of
disconnect_reply_typed t = (t.ids.0, (t.ids.1, tt))

pub discovery_request_typed : {q : DiscoveryRequest} → DiscoveryRequestTyped q → RequestTyped (discovery_request q)
unfolding discovery_request layout entries_of items_of service_names queue_names
discovery_request_typed t = (
  t.ids.0,
  (
    t.ids.1,
    (
      t.domain.0,
      (t.domain.1, ((λ _. t.services.0.0, (t.services.1, tt)), ((λ _. t.queues.0.0, (t.queues.1, tt)), tt))),
    ),
  ),
)

pub topology_update_typed : {q : TopologyUpdate} → TopologyUpdateTyped q → RequestTyped (topology_update q)
unfolding topology_update layout entries_of items_of domains
topology_update_typed t =
    (t.ids.0, (t.ids.1, ((λ _. t.domain_names.0.0, (t.domain_ids, (t.domain_names.1, tt))), tt)))

-- a number that is judged is not asked to fit
unasked : {P : Type 0} (m : ℕ) → m < any_value → m ≡ any_value → P
unasked m h e = absurd (omega arith)

pub discovery_reply_typed : {q : DiscoveryReply} → DiscoveryReplyTyped q → RequestTyped (discovery_reply q)
unfolding discovery_reply layout entries_of items_of services queues
discovery_reply_typed t = (
  t.ids.0,
  (
    t.ids.1,
    (
      t.domain.0,
      (
        t.domain.1,
        (
          (
            λ _. t.service_names.0.0,
            (t.service_names.1, (t.categories.1, (unasked 3 (omega arith), (λ _. t.timeouts.1, (λ _. t.hops.1, tt))))),
          ),
          (
            (
              λ _. t.queue_names.0.0,
              (t.queue_names.1, (λ _. t.retry_counts.1, (λ _. t.retry_delays.1, (unasked 1 (omega arith), (unasked 1 (omega arith), tt))))),
            ),
            tt,
          ),
        ),
      ),
    ),
  ),
)

pub service_reply_typed : {q : ServiceReply} → ServiceReplyTyped q → RequestTyped (service_reply q)
unfolding service_reply layout entries_of
service_reply_typed t =
    (t.ids.0, (t.ids.1, (λ _. t.code_result, (λ _. t.code_user, (unasked 3 (omega arith), (t.buffer_type, (t.buffer_data, tt)))))))

pub rollback_request_typed : {q : RollbackRequest} → RollbackRequestTyped q → RequestTyped (rollback_request q)
unfolding rollback_request layout entries_of
rollback_request_typed t = (t.ids.0, (t.ids.1, ((t.xid.0, t.xid.3), (λ _. t.resource, (λ _. t.flags, tt)))))

pub rollback_reply_typed : {q : RollbackReply} → RollbackReplyTyped q → RequestTyped (rollback_reply q)
unfolding rollback_reply layout entries_of
rollback_reply_typed t = (t.ids.0, (t.ids.1, ((t.xid.0, t.xid.3), (λ _. t.resource, (λ _. t.state, tt)))))

pub dequeue_reply_typed : {q : DequeueReply} → DequeueReplyTyped q → RequestTyped (dequeue_reply q)
unfolding dequeue_reply layout entries_of items_of messages
dequeue_reply_typed t = (
  t.ids.0,
  (
    t.ids.1,
    (
      (
        λ _. t.properties.0.0,
        (
          t.message_ids,
          (
            t.properties.1,
            (
              t.reply_queues.1,
              (λ _. t.availables.1, (t.data_types.1, (t.data_bytes.1, (λ _. t.redelivereds.1, (λ _. t.timestamps.1, tt))))),
            ),
          ),
        ),
      ),
      tt,
    ),
  ),
)
