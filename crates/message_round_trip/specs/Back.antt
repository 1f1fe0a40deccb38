-- From writing to reading, at each request's own fields: what the types of the fields say, and what the calls on the bytes m, read at the agreed
-- version v, hand back.
use Rattle.std.specs.Prelude.{Ok, ℕ, ◌*◌, ◌^◌, ◌<◌, ◌≡◌, List, length, take, drop, get_or}
use Rattle.wire.specs.declared.values.XidNumber.{XidNumber}
use Rattle.wire.specs.declared.values.XidNumber.TheVariants.{FormatId, GtridLength, BqualLength}
use Rattle.message_layout.specs.Roles.{Execution, DomainId, DomainName, ProtocolVersions, ProtocolVersion, Services, Queues, Domains, CodeResult, CodeUser, TransactionState, BufferType, BufferData, Xid, Resource, Flags, State, Messages, Offered, Name, Category, Transaction, Timeout, Hops, RetryCount, RetryDelay, Enqueue, Dequeue, Id, Properties, ReplyQueue, Available, DataType, Data, Redelivered, Timestamp}
use Rattle.message_read.specs.Reading.{reading}
use Rattle.message_fields.specs.Fields.{correlation_part, part_of, part_number, number_answer, xid_answer}
use Rattle.message_lists.specs.Elements.{count_of, element_part, element_reply, element_value}
use Rattle.message_choice.specs.Choice.{chosen, offers_in}
use Rattle.message_lent.specs.Lent.{sum}
use Rattle.message_lent.specs.Lending.{Slice}
use Rattle.message_lent.specs.Requests.{ConnectRequest, ConnectReply, DisconnectRequest, DisconnectReply, DiscoveryRequest, TopologyUpdate, DiscoveryReply, ServiceReply, RollbackRequest, RollbackReply, DequeueReply}

-- ---- what the types say: `&[u8]` is a Slice, `&[u64]` Numbers, `u64` and `u32` numbers below 2 ^ 64 and 2 ^ 32; src/types proves it of every argument

abbrev pub Numbers : List ℕ → Type 0
Numbers ns = (length ns < 256 ^ 8) × ((i : ℕ) → get_or ns i 0 < 256 ^ 8)

abbrev pub U64 : ℕ → Type 0
U64 n = n < 256 ^ 8

abbrev pub U32 : ℕ → Type 0
U32 n = n < 256 ^ 4

-- of strings that are lent as lengths and a joined run
abbrev pub Strings : List ℕ → List ℕ → Type 0
Strings lengths run = Numbers lengths × Slice run

-- a correlation and an execution id
abbrev pub Ids : List ℕ → List ℕ → Type 0
Ids correlation execution = Slice correlation × Slice execution

-- a domain's id and name
abbrev pub DomainTyped : List ℕ → List ℕ → Type 0
DomainTyped id name = Slice id × Slice name

-- an xid
abbrev pub XidTyped : ℕ → ℕ → ℕ → List ℕ → Type 0
XidTyped format gtrid bqual content = U64 format × U64 gtrid × U64 bqual × Slice content

pub record ConnectRequestTyped (q : ConnectRequest) : Type 0 where
  pub ids : Ids q.correlation q.execution
  pub domain : DomainTyped q.domain_id q.domain_name
  pub versions : Numbers q.versions

pub record ConnectReplyTyped (q : ConnectReply) : Type 0 where
  pub ids : Ids q.correlation q.execution
  pub domain : DomainTyped q.domain_id q.domain_name
  pub version : U64 q.version

pub record DisconnectRequestTyped (q : DisconnectRequest) : Type 0 where
  pub ids : Ids q.correlation q.execution

pub record DisconnectReplyTyped (q : DisconnectReply) : Type 0 where
  pub ids : Ids q.correlation q.execution

pub record DiscoveryRequestTyped (q : DiscoveryRequest) : Type 0 where
  pub ids : Ids q.correlation q.execution
  pub domain : DomainTyped q.domain_id q.domain_name
  pub services : Strings q.service_name_lengths q.service_names
  pub queues : Strings q.queue_name_lengths q.queue_names

pub record TopologyUpdateTyped (q : TopologyUpdate) : Type 0 where
  pub ids : Ids q.correlation q.execution
  pub domain_ids : Slice q.domain_ids
  pub domain_names : Strings q.domain_name_lengths q.domain_names

pub record DiscoveryReplyTyped (q : DiscoveryReply) : Type 0 where
  pub ids : Ids q.correlation q.execution
  pub domain : DomainTyped q.domain_id q.domain_name
  pub service_names : Strings q.service_name_lengths q.service_names
  pub categories : Strings q.category_lengths q.categories
  pub modes : Numbers q.modes
  pub timeouts : Numbers q.timeouts
  pub hops : Numbers q.hops
  pub queue_names : Strings q.queue_name_lengths q.queue_names
  pub retry_counts : Numbers q.retry_counts
  pub retry_delays : Numbers q.retry_delays
  pub enqueues : Numbers q.enqueues
  pub dequeues : Numbers q.dequeues

pub record ServiceReplyTyped (q : ServiceReply) : Type 0 where
  pub ids : Ids q.correlation q.execution
  pub code_result : U32 q.code_result
  pub code_user : U64 q.code_user
  pub transaction_state : U64 q.transaction_state
  pub buffer_type : Slice q.buffer_type
  pub buffer_data : Slice q.buffer_data

pub record RollbackRequestTyped (q : RollbackRequest) : Type 0 where
  pub ids : Ids q.correlation q.execution
  pub xid : XidTyped q.format_id q.gtrid_length q.bqual_length q.xid_data
  pub resource : U32 q.resource
  pub flags : U64 q.flags

pub record RollbackReplyTyped (q : RollbackReply) : Type 0 where
  pub ids : Ids q.correlation q.execution
  pub xid : XidTyped q.format_id q.gtrid_length q.bqual_length q.xid_data
  pub resource : U32 q.resource
  pub state : U32 q.state

pub record DequeueReplyTyped (q : DequeueReply) : Type 0 where
  pub ids : Ids q.correlation q.execution
  pub message_ids : Slice q.ids
  pub properties : Strings q.properties_lengths q.properties
  pub reply_queues : Strings q.reply_queue_lengths q.reply_queues
  pub availables : Numbers q.availables
  pub data_types : Strings q.data_type_lengths q.data_types
  pub data_bytes : Strings q.data_lengths q.data_bytes
  pub redelivereds : Numbers q.redelivereds
  pub timestamps : Numbers q.timestamps

-- ---- the items of what was lent for a list

-- string i of a joined run: what follows the strings before it, of its length
abbrev pub string_at : List ℕ → List ℕ → ℕ → List ℕ
string_at lengths run i = take (get_or lengths i 0) (drop (sum (take i lengths)) run)

-- id i of a run of ids, of 16 bytes each
abbrev pub id_at : List ℕ → ℕ → List ℕ
id_at run i = take 16 (drop (16 * i) run)

-- ---- what the calls on m at v hand back

module _ (v : ℕ) (m : List ℕ) where
  -- the call for the correlation hands back these bytes
  abbrev pub GivesCorrelation : List ℕ → Type 0
  GivesCorrelation bytes = correlation_part (reading v m) m ≡ bytes

  -- the call for bytes, at role r: these, with the number 0
  abbrev pub Gives : ℕ → List ℕ → Type 0
  Gives r bytes = (part_of (reading v m) r m ≡ bytes) × (part_number (reading v m) r m ≡ 0)

  -- the call for a number, at role r
  abbrev pub GivesNumber : ℕ → ℕ → Type 0
  GivesNumber r n = number_answer (reading v m) r m ≡ Ok n

  -- the call for a number of the xid
  abbrev pub GivesXidNumber : XidNumber → ℕ → Type 0
  GivesXidNumber x n = xid_answer (reading v m) x m ≡ Ok n

  -- the call for how many elements the list of role l has
  abbrev pub GivesCount : ℕ → ℕ → Type 0
  GivesCount l n = count_of (reading v m) l m ≡ Ok n

  -- the call for bytes of an element of list l, at role r: for each of n elements its item, with the number 0
  abbrev pub GivesParts : ℕ → ℕ → ℕ → (ℕ → List ℕ) → Type 0
  GivesParts l n r item = (i : ℕ) → i < n → (element_part (reading v m) l i r m ≡ item i) × (element_reply (reading v m) l i r m ≡ 0)

  -- strings that were lent for list l, at role r, all of them: there are n lengths, they sum to the bytes of the run, and each element has its string
  abbrev pub GivesStrings : ℕ → ℕ → ℕ → List ℕ → List ℕ → Type 0
  GivesStrings l n r lengths run = (length lengths ≡ n) × (sum lengths ≡ length run) × GivesParts l n r (string_at lengths run)

  -- ids, all of them: the run has the bytes of n ids, and each element has its id
  abbrev pub GivesIds : ℕ → ℕ → ℕ → List ℕ → Type 0
  GivesIds l n r run = (length run ≡ 16 * n) × GivesParts l n r (id_at run)

  -- numbers, all of them: there are n, and the call for a number of an element gives each element's
  abbrev pub GivesNumbers : ℕ → ℕ → ℕ → List ℕ → Type 0
  GivesNumbers l n r ns = (length ns ≡ n) × ((i : ℕ) → i < n → element_value (reading v m) l i r m ≡ Ok (get_or ns i 0))

  -- the calls for the xid: its three numbers, and its data
  pub record GivesXid (format gtrid bqual : ℕ) (content : List ℕ) : Type 0 where
    pub format_id : GivesXidNumber FormatId format
    pub gtrid_length : GivesXidNumber GtridLength gtrid
    pub bqual_length : GivesXidNumber BqualLength bqual
    pub xid_data : Gives Xid content

  -- 7200
  pub record ConnectRequestBack (q : ConnectRequest) : Type 0 where
    pub correlation : GivesCorrelation q.correlation
    pub execution : Gives Execution q.execution
    pub domain_id : Gives DomainId q.domain_id
    pub domain_name : Gives DomainName q.domain_name
    pub count : GivesCount ProtocolVersions (length q.versions)
    pub versions : GivesNumbers ProtocolVersions (length q.versions) Offered q.versions
    pub choice : chosen (offers_in (reading v m) m) ≡ chosen q.versions

  -- 7201
  pub record ConnectReplyBack (q : ConnectReply) : Type 0 where
    pub correlation : GivesCorrelation q.correlation
    pub execution : Gives Execution q.execution
    pub domain_id : Gives DomainId q.domain_id
    pub domain_name : Gives DomainName q.domain_name
    pub version : GivesNumber ProtocolVersion q.version

  -- 7202
  pub record DisconnectRequestBack (q : DisconnectRequest) : Type 0 where
    pub correlation : GivesCorrelation q.correlation
    pub execution : Gives Execution q.execution

  -- 7203
  pub record DisconnectReplyBack (q : DisconnectReply) : Type 0 where
    pub correlation : GivesCorrelation q.correlation
    pub execution : Gives Execution q.execution

  -- 7300
  pub record DiscoveryRequestBack (q : DiscoveryRequest) : Type 0 where
    pub correlation : GivesCorrelation q.correlation
    pub execution : Gives Execution q.execution
    pub domain_id : Gives DomainId q.domain_id
    pub domain_name : Gives DomainName q.domain_name
    pub services : GivesCount Services (length q.service_name_lengths)
    pub service_names : GivesStrings Services (length q.service_name_lengths) Name q.service_name_lengths q.service_names
    pub queues : GivesCount Queues (length q.queue_name_lengths)
    pub queue_names : GivesStrings Queues (length q.queue_name_lengths) Name q.queue_name_lengths q.queue_names

  -- 7302
  pub record TopologyUpdateBack (q : TopologyUpdate) : Type 0 where
    pub correlation : GivesCorrelation q.correlation
    pub execution : Gives Execution q.execution
    pub domains : GivesCount Domains (length q.domain_name_lengths)
    pub domain_ids : GivesIds Domains (length q.domain_name_lengths) Id q.domain_ids
    pub domain_names : GivesStrings Domains (length q.domain_name_lengths) Name q.domain_name_lengths q.domain_names

  -- 7311
  pub record DiscoveryReplyBack (q : DiscoveryReply) : Type 0 where
    pub correlation : GivesCorrelation q.correlation
    pub execution : Gives Execution q.execution
    pub domain_id : Gives DomainId q.domain_id
    pub domain_name : Gives DomainName q.domain_name
    pub services : GivesCount Services (length q.service_name_lengths)
    pub service_names : GivesStrings Services (length q.service_name_lengths) Name q.service_name_lengths q.service_names
    pub categories : GivesStrings Services (length q.service_name_lengths) Category q.category_lengths q.categories
    pub modes : GivesNumbers Services (length q.service_name_lengths) Transaction q.modes
    pub timeouts : GivesNumbers Services (length q.service_name_lengths) Timeout q.timeouts
    pub hops : GivesNumbers Services (length q.service_name_lengths) Hops q.hops
    pub queues : GivesCount Queues (length q.queue_name_lengths)
    pub queue_names : GivesStrings Queues (length q.queue_name_lengths) Name q.queue_name_lengths q.queue_names
    pub retry_counts : GivesNumbers Queues (length q.queue_name_lengths) RetryCount q.retry_counts
    pub retry_delays : GivesNumbers Queues (length q.queue_name_lengths) RetryDelay q.retry_delays
    pub enqueues : GivesNumbers Queues (length q.queue_name_lengths) Enqueue q.enqueues
    pub dequeues : GivesNumbers Queues (length q.queue_name_lengths) Dequeue q.dequeues

  -- 3103
  pub record ServiceReplyBack (q : ServiceReply) : Type 0 where
    pub correlation : GivesCorrelation q.correlation
    pub execution : Gives Execution q.execution
    pub code_result : GivesNumber CodeResult q.code_result
    pub code_user : GivesNumber CodeUser q.code_user
    pub transaction_state : GivesNumber TransactionState q.transaction_state
    pub buffer_type : Gives BufferType q.buffer_type
    pub buffer_data : Gives BufferData q.buffer_data

  -- 5205
  pub record RollbackRequestBack (q : RollbackRequest) : Type 0 where
    pub correlation : GivesCorrelation q.correlation
    pub execution : Gives Execution q.execution
    pub xid : GivesXid q.format_id q.gtrid_length q.bqual_length q.xid_data
    pub resource : GivesNumber Resource q.resource
    pub flags : GivesNumber Flags q.flags

  -- 5206
  pub record RollbackReplyBack (q : RollbackReply) : Type 0 where
    pub correlation : GivesCorrelation q.correlation
    pub execution : Gives Execution q.execution
    pub xid : GivesXid q.format_id q.gtrid_length q.bqual_length q.xid_data
    pub resource : GivesNumber Resource q.resource
    pub state : GivesNumber State q.state

  -- 6201
  pub record DequeueReplyBack (q : DequeueReply) : Type 0 where
    pub correlation : GivesCorrelation q.correlation
    pub execution : Gives Execution q.execution
    pub messages : GivesCount Messages (length q.properties_lengths)
    pub ids : GivesIds Messages (length q.properties_lengths) Id q.ids
    pub properties : GivesStrings Messages (length q.properties_lengths) Properties q.properties_lengths q.properties
    pub reply_queues : GivesStrings Messages (length q.properties_lengths) ReplyQueue q.reply_queue_lengths q.reply_queues
    pub availables : GivesNumbers Messages (length q.properties_lengths) Available q.availables
    pub data_types : GivesStrings Messages (length q.properties_lengths) DataType q.data_type_lengths q.data_types
    pub data_bytes : GivesStrings Messages (length q.properties_lengths) Data q.data_lengths q.data_bytes
    pub redelivereds : GivesNumbers Messages (length q.properties_lengths) Redelivered q.redelivereds
    pub timestamps : GivesNumbers Messages (length q.properties_lengths) Timestamp q.timestamps
