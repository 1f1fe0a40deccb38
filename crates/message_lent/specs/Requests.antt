-- What is to be written: a message as it is lent; and the eleven, each field in the order of document 01's table.
use Rattle.std.specs.Prelude.{ℕ, List}
use Rattle.wire.specs.Values.{encode}
use Rattle.message_layout.specs.Table.{entries_of, layout}
use Rattle.message_layout.specs.Message.{Message, header}
use Rattle.message_lent.specs.Lent.{Lents, values_lent, lent_xid}
use Rattle.message_lent.specs.Lists.{versions, service_names, queue_names, domains, services, queues, messages}

-- a request: the type of the message, its correlation, and its fields as they are lent
pub record Request : Type 0 where
  pub kind : ℕ
  pub correlation : List ℕ
  pub lent : Lents (layout kind)

-- the message that it stands for
abbrev pub message : Request → Message
message r = record { kind = r.kind; correlation = r.correlation; values = values_lent (layout r.kind) r.lent }

-- the header of a message
abbrev pub header_of : ℕ → List ℕ → ℕ → List ℕ
header_of t c size = encode header ((t, (c, (size, tt))))

-- ---- the eleven: what each writer is lent, by name. Of a list, each item of its elements is a column: numbers as they are; strings as their lengths
-- and one joined run; ids as one run.

-- 7200
pub record ConnectRequest : Type 0 where
  pub correlation : List ℕ
  pub execution : List ℕ
  pub domain_id : List ℕ
  pub domain_name : List ℕ
  pub versions : List ℕ

unfoldable pub connect_request : ConnectRequest → Request
unfolding layout entries_of
connect_request q = record { kind = 7200; correlation = q.correlation; lent = (q.execution, (q.domain_id, (q.domain_name, (versions q.versions, tt)))) }

-- 7201; version is the chosen one, or 0
pub record ConnectReply : Type 0 where
  pub correlation : List ℕ
  pub execution : List ℕ
  pub domain_id : List ℕ
  pub domain_name : List ℕ
  pub version : ℕ

unfoldable pub connect_reply : ConnectReply → Request
unfolding layout entries_of
connect_reply q = record { kind = 7201; correlation = q.correlation; lent = (q.execution, (q.domain_id, (q.domain_name, (q.version, tt)))) }

-- 7202
pub record DisconnectRequest : Type 0 where
  pub correlation : List ℕ
  pub execution : List ℕ

unfoldable pub disconnect_request : DisconnectRequest → Request
unfolding layout entries_of
disconnect_request q = record { kind = 7202; correlation = q.correlation; lent = (q.execution, tt) }

-- 7203
pub record DisconnectReply : Type 0 where
  pub correlation : List ℕ
  pub execution : List ℕ

unfoldable pub disconnect_reply : DisconnectReply → Request
unfolding layout entries_of
disconnect_reply q = record { kind = 7203; correlation = q.correlation; lent = (q.execution, tt) }

-- 7300
pub record DiscoveryRequest : Type 0 where
  pub correlation : List ℕ
  pub execution : List ℕ
  pub domain_id : List ℕ
  pub domain_name : List ℕ
  pub service_name_lengths : List ℕ
  pub service_names : List ℕ
  pub queue_name_lengths : List ℕ
  pub queue_names : List ℕ

unfoldable pub discovery_request : DiscoveryRequest → Request
unfolding layout entries_of
discovery_request q = record { kind = 7300; correlation = q.correlation; lent = (q.execution, (q.domain_id, (q.domain_name, (service_names q.service_name_lengths q.service_names, (queue_names q.queue_name_lengths q.queue_names, tt))))) }

-- 7302
pub record TopologyUpdate : Type 0 where
  pub correlation : List ℕ
  pub execution : List ℕ
  pub domain_ids : List ℕ
  pub domain_name_lengths : List ℕ
  pub domain_names : List ℕ

unfoldable pub topology_update : TopologyUpdate → Request
unfolding layout entries_of
topology_update q = record { kind = 7302; correlation = q.correlation; lent = (q.execution, (domains q.domain_ids q.domain_name_lengths q.domain_names, tt)) }

-- 7311; modes are the transaction modes of the services
pub record DiscoveryReply : Type 0 where
  pub correlation : List ℕ
  pub execution : List ℕ
  pub domain_id : List ℕ
  pub domain_name : List ℕ
  pub service_name_lengths : List ℕ
  pub service_names : List ℕ
  pub category_lengths : List ℕ
  pub categories : List ℕ
  pub modes : List ℕ
  pub timeouts : List ℕ
  pub hops : List ℕ
  pub queue_name_lengths : List ℕ
  pub queue_names : List ℕ
  pub retry_counts : List ℕ
  pub retry_delays : List ℕ
  pub enqueues : List ℕ
  pub dequeues : List ℕ

unfoldable pub discovery_reply : DiscoveryReply → Request
unfolding layout entries_of
discovery_reply q =
    record {
      kind = 7311;
      correlation = q.correlation;
      lent = (
        q.execution,
        (
          q.domain_id,
          (
            q.domain_name,
            (
              services q.service_name_lengths q.service_names q.category_lengths q.categories q.modes q.timeouts q.hops,
              (queues q.queue_name_lengths q.queue_names q.retry_counts q.retry_delays q.enqueues q.dequeues, tt),
            ),
          ),
        ),
      );
    }

-- 3103
pub record ServiceReply : Type 0 where
  pub correlation : List ℕ
  pub execution : List ℕ
  pub code_result : ℕ
  pub code_user : ℕ
  pub transaction_state : ℕ
  pub buffer_type : List ℕ
  pub buffer_data : List ℕ

unfoldable pub service_reply : ServiceReply → Request
unfolding layout entries_of
service_reply q = record { kind = 3103; correlation = q.correlation; lent = (q.execution, (q.code_result, (q.code_user, (q.transaction_state, (q.buffer_type, (q.buffer_data, tt)))))) }

-- 5205; an xid is lent as its formatID, its two lengths and its data
pub record RollbackRequest : Type 0 where
  pub correlation : List ℕ
  pub execution : List ℕ
  pub format_id : ℕ
  pub gtrid_length : ℕ
  pub bqual_length : ℕ
  pub xid_data : List ℕ
  pub resource : ℕ
  pub flags : ℕ

unfoldable pub rollback_request : RollbackRequest → Request
unfolding layout entries_of
rollback_request q = record { kind = 5205; correlation = q.correlation; lent = (q.execution, (lent_xid q.format_id q.gtrid_length q.bqual_length q.xid_data, (q.resource, (q.flags, tt)))) }

-- 5206
pub record RollbackReply : Type 0 where
  pub correlation : List ℕ
  pub execution : List ℕ
  pub format_id : ℕ
  pub gtrid_length : ℕ
  pub bqual_length : ℕ
  pub xid_data : List ℕ
  pub resource : ℕ
  pub state : ℕ

unfoldable pub rollback_reply : RollbackReply → Request
unfolding layout entries_of
rollback_reply q = record { kind = 5206; correlation = q.correlation; lent = (q.execution, (lent_xid q.format_id q.gtrid_length q.bqual_length q.xid_data, (q.resource, (q.state, tt)))) }

-- 6201
pub record DequeueReply : Type 0 where
  pub correlation : List ℕ
  pub execution : List ℕ
  pub ids : List ℕ
  pub properties_lengths : List ℕ
  pub properties : List ℕ
  pub reply_queue_lengths : List ℕ
  pub reply_queues : List ℕ
  pub availables : List ℕ
  pub data_type_lengths : List ℕ
  pub data_types : List ℕ
  pub data_lengths : List ℕ
  pub data_bytes : List ℕ
  pub redelivereds : List ℕ
  pub timestamps : List ℕ

unfoldable pub dequeue_reply : DequeueReply → Request
unfolding layout entries_of
dequeue_reply q =
    record {
      kind = 6201;
      correlation = q.correlation;
      lent = (
        q.execution,
        (
          messages q.ids q.properties_lengths q.properties q.reply_queue_lengths q.reply_queues q.availables q.data_type_lengths q.data_types
              q.data_lengths q.data_bytes q.redelivereds q.timestamps,
          tt,
        ),
      );
    }
