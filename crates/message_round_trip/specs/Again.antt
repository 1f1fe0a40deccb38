-- From reading to writing: what the calls on an accepted message hand back, gathered into what each writer is lent.
use Rattle.std.specs.Prelude.{ℕ, zero, suc, List, [], ◌∷◌, map, length}
use Rattle.wire.specs.declared.values.XidNumber.{XidNumber}
use Rattle.wire.specs.declared.values.XidNumber.TheVariants.{FormatId, GtridLength, BqualLength}
use Rattle.message_layout.specs.Roles.{Execution, DomainId, DomainName, ProtocolVersions, ProtocolVersion, Services, Queues, Domains, CodeResult, CodeUser, TransactionState, BufferType, BufferData, Xid, Resource, Flags, State, Messages, Offered, Name, Category, Transaction, Timeout, Hops, RetryCount, RetryDelay, Enqueue, Dequeue, Id, Properties, ReplyQueue, Available, DataType, Data, Redelivered, Timestamp}
use Rattle.message_read.specs.Reading.{reading}
use Rattle.message_fields.specs.Fields.{correlation_part, part_of, number_answer, xid_answer, value_of}
use Rattle.message_lists.specs.Elements.{count_of, element_part, element_value}
use Rattle.message_lent.specs.Lending.{joined}
use Rattle.message_lent.specs.Requests.{ConnectRequest, ConnectReply, DisconnectRequest, DisconnectReply, DiscoveryRequest, TopologyUpdate, DiscoveryReply, ServiceReply, RollbackRequest, RollbackReply, DequeueReply}

-- ---- what the calls hand back

-- what f gives for 0, 1, .. below n
unfoldable pub each : {A : Type 0} → ℕ → (ℕ → A) → List A
each zero f = []
each (suc n) f = f 0 ∷ each n (λ i. f (suc i))

-- the answers of all calls on a message: by role its bytes and its numbers, the numbers of its xid, and by the role of a list and a role of its elements
-- the bytes and the numbers of each element, from the first to the last
pub record Answers : Type 0 where
  pub correlation : List ℕ
  pub part : ℕ → List ℕ
  pub number : ℕ → ℕ
  pub xid : XidNumber → ℕ
  pub parts : ℕ → ℕ → List (List ℕ)
  pub numbers : ℕ → ℕ → List ℕ

-- those on the bytes m at the agreed version v
abbrev pub answers : ℕ → List ℕ → Answers
answers v m =
    record {
      correlation = correlation_part (reading v m) m;
      part = λ r. part_of (reading v m) r m;
      number = λ r. value_of (number_answer (reading v m) r m);
      xid = λ x. value_of (xid_answer (reading v m) x m);
      parts = λ l r. each (value_of (count_of (reading v m) l m)) (λ i. element_part (reading v m) l i r m);
      numbers = λ l r. each (value_of (count_of (reading v m) l m)) (λ i. value_of (element_value (reading v m) l i r m));
    }

-- ---- gathered for each writer; strings are lent as their lengths and one joined run

abbrev pub lengths : List (List ℕ) → List ℕ
lengths parts = map length parts

-- 7200
abbrev pub gather_connect_request : Answers → ConnectRequest
gather_connect_request a =
    record {
      correlation = a.correlation;
      execution = a.part Execution;
      domain_id = a.part DomainId;
      domain_name = a.part DomainName;
      versions = a.numbers ProtocolVersions Offered;
    }

-- 7201
abbrev pub gather_connect_reply : Answers → ConnectReply
gather_connect_reply a =
    record {
      correlation = a.correlation;
      execution = a.part Execution;
      domain_id = a.part DomainId;
      domain_name = a.part DomainName;
      version = a.number ProtocolVersion;
    }

-- 7202
abbrev pub gather_disconnect_request : Answers → DisconnectRequest
gather_disconnect_request a = record { correlation = a.correlation; execution = a.part Execution }

-- 7203
abbrev pub gather_disconnect_reply : Answers → DisconnectReply
gather_disconnect_reply a = record { correlation = a.correlation; execution = a.part Execution }

-- 7300
abbrev pub gather_discovery_request : Answers → DiscoveryRequest
gather_discovery_request a =
    record {
      correlation = a.correlation;
      execution = a.part Execution;
      domain_id = a.part DomainId;
      domain_name = a.part DomainName;
      service_name_lengths = lengths (a.parts Services Name);
      service_names = joined (a.parts Services Name);
      queue_name_lengths = lengths (a.parts Queues Name);
      queue_names = joined (a.parts Queues Name);
    }

-- 7302
abbrev pub gather_topology_update : Answers → TopologyUpdate
gather_topology_update a =
    record {
      correlation = a.correlation;
      execution = a.part Execution;
      domain_ids = joined (a.parts Domains Id);
      domain_name_lengths = lengths (a.parts Domains Name);
      domain_names = joined (a.parts Domains Name);
    }

-- 7311
abbrev pub gather_discovery_reply : Answers → DiscoveryReply
gather_discovery_reply a =
    record {
      correlation = a.correlation;
      execution = a.part Execution;
      domain_id = a.part DomainId;
      domain_name = a.part DomainName;
      service_name_lengths = lengths (a.parts Services Name);
      service_names = joined (a.parts Services Name);
      category_lengths = lengths (a.parts Services Category);
      categories = joined (a.parts Services Category);
      modes = a.numbers Services Transaction;
      timeouts = a.numbers Services Timeout;
      hops = a.numbers Services Hops;
      queue_name_lengths = lengths (a.parts Queues Name);
      queue_names = joined (a.parts Queues Name);
      retry_counts = a.numbers Queues RetryCount;
      retry_delays = a.numbers Queues RetryDelay;
      enqueues = a.numbers Queues Enqueue;
      dequeues = a.numbers Queues Dequeue;
    }

-- 3103
abbrev pub gather_service_reply : Answers → ServiceReply
gather_service_reply a =
    record {
      correlation = a.correlation;
      execution = a.part Execution;
      code_result = a.number CodeResult;
      code_user = a.number CodeUser;
      transaction_state = a.number TransactionState;
      buffer_type = a.part BufferType;
      buffer_data = a.part BufferData;
    }

-- 5205
abbrev pub gather_rollback_request : Answers → RollbackRequest
gather_rollback_request a =
    record {
      correlation = a.correlation;
      execution = a.part Execution;
      format_id = a.xid FormatId;
      gtrid_length = a.xid GtridLength;
      bqual_length = a.xid BqualLength;
      xid_data = a.part Xid;
      resource = a.number Resource;
      flags = a.number Flags;
    }

-- 5206
abbrev pub gather_rollback_reply : Answers → RollbackReply
gather_rollback_reply a =
    record {
      correlation = a.correlation;
      execution = a.part Execution;
      format_id = a.xid FormatId;
      gtrid_length = a.xid GtridLength;
      bqual_length = a.xid BqualLength;
      xid_data = a.part Xid;
      resource = a.number Resource;
      state = a.number State;
    }

-- 6201
abbrev pub gather_dequeue_reply : Answers → DequeueReply
gather_dequeue_reply a =
    record {
      correlation = a.correlation;
      execution = a.part Execution;
      ids = joined (a.parts Messages Id);
      properties_lengths = lengths (a.parts Messages Properties);
      properties = joined (a.parts Messages Properties);
      reply_queue_lengths = lengths (a.parts Messages ReplyQueue);
      reply_queues = joined (a.parts Messages ReplyQueue);
      availables = a.numbers Messages Available;
      data_type_lengths = lengths (a.parts Messages DataType);
      data_types = joined (a.parts Messages DataType);
      data_lengths = lengths (a.parts Messages Data);
      data_bytes = joined (a.parts Messages Data);
      redelivereds = a.numbers Messages Redelivered;
      timestamps = a.numbers Messages Timestamp;
    }
