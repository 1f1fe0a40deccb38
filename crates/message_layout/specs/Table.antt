-- Document 01's table of the messages, with the role names of document 003. A string's name stands for 003's `.size` and `.data`, a list's for
-- `.size`, and `xid` for its four fields.
use Rattle.std.specs.Prelude.{ℕ, zero, suc, Bool, true, false, cond, ◌&&◌, List, [], ◌∷◌, Option, None, Some, eqb, leb}
use Prim.Native.String.{String}
use Rattle.wire.specs.Layout.{◌is◌, at_most, Field, one, many, xid, Items, Fields}
use Rattle.wire.specs.declared.Item.{Item}
use Rattle.wire.specs.declared.Item.TheVariants.{Raw, Num, Str}
use Rattle.wire.specs.declared.Width.{Width}
use Rattle.wire.specs.declared.Width.TheVariants.{U8, U16, U32, U64}
use Rattle.message_layout.specs.Roles.{Execution, DomainId, DomainName, ProtocolVersions, ProtocolVersion, Services, Queues, Domains, CodeResult, CodeUser, TransactionState, BufferType, BufferData, Xid, Resource, Flags, State, Messages, Offered, Name, Category, Transaction, Timeout, Hops, RetryCount, RetryDelay, Enqueue, Dequeue, Id, Properties, ReplyQueue, Available, DataType, Data, Redelivered, Timestamp}
use Rattle.message_layout.specs.declared.Element.{Element}
use Rattle.message_layout.specs.declared.Element.TheVariants.{Version, ServiceName, QueueName, Domain, Service, Queue, Message}
use Rattle.message_layout.specs.declared.Kind.{Kind}
use Rattle.message_layout.specs.declared.Kind.TheVariants as kind
use Rattle.message_layout.specs.declared.Field.{Field as RowField}
use Rattle.message_layout.specs.declared.Source.{Source}
use Rattle.message_layout.specs.declared.Source.TheVariants as source
use Rattle.message_layout.specs.declared.Versions.{Versions}

-- the largest u64: a number that is not judged is at most that
abbrev pub any_value : ℕ
any_value = 0xffff_ffff_ffff_ffff

-- a number that is not judged, and one of at most m
abbrev pub any_number : Width → Item
any_number w = Num w (at_most any_value)

abbrev pub up_to : Width → ℕ → Item
up_to w m = Num w (at_most m)

-- document 01's B: one byte, 0 or 1
abbrev pub boolean : Item
boolean = up_to U8 1

-- ---- the elements of the lists

-- an item of an element: its role, 003's name for that, and its kind
pub record EnteredItem : Type 0 where
  pub role : ℕ
  pub name : String
  pub item : Item

abbrev pub item : ℕ → String → Item → EnteredItem
item r n i = record { role = r; name = n; item = i }

-- the items of each kind of element
abbrev pub item_entries : Element → List EnteredItem
item_entries Version =
    item Offered "protocol.versions.element" (any_number U64)
    ∷ []
item_entries ServiceName =
    item Name "content.services.element" Str
    ∷ []
item_entries QueueName =
    item Name "content.queues.element" Str
    ∷ []
item_entries Domain =
    item Id "domains.element.id" (Raw 16)
    ∷ item Name "domains.element.name" Str
    ∷ []
item_entries Service =
    item Name "content.services.element.name" Str
    ∷ item Category "content.services.element.category" Str
    -- document 01's reading of the four modes that 003 names
    ∷ item Transaction "content.services.element.transaction" (up_to U16 3)
    ∷ item Timeout "content.services.element.timeout.duration" (any_number U64)
    ∷ item Hops "content.services.element.hops" (any_number U64)
    ∷ []
item_entries Queue =
    item Name "content.queues.element.name" Str
    ∷ item RetryCount "content.queues.element.retry.count" (any_number U64)
    ∷ item RetryDelay "content.queues.element.retry.delay" (any_number U64)
    ∷ item Enqueue "content.queues.element.enable.enqueue" boolean
    ∷ item Dequeue "content.queues.element.enable.dequeue" boolean
    ∷ []
item_entries Message =
    item Id "message.element.id" (Raw 16)
    ∷ item Properties "message.element.attributes.properties" Str
    ∷ item ReplyQueue "message.element.attributes.reply" Str
    ∷ item Available "message.element.attributes.available" (any_number U64)
    ∷ item DataType "message.element.payload.type" Str
    ∷ item Data "message.element.payload.data" Str
    ∷ item Redelivered "message.element.redelivered" (any_number U64)
    ∷ item Timestamp "message.element.timestamp" (any_number U64)
    ∷ []

abbrev pub named_items : List EnteredItem → Items
named_items [] = []
named_items (e ∷ es) = e.name is e.item ∷ named_items es

-- what follows a count, by the kind of element
unfoldable pub items_of : Element → Items
items_of e = named_items (item_entries e)

-- ---- the fields of a message

-- a kind of field; document 01's L is a u64 count, which is not judged by itself, and as many elements; a part that follows a flag is a count of one
-- byte that is at most 1, and as many elements
abbrev pub field_of : Kind → Field
field_of (kind.One i) = one i
field_of (kind.List e) = many U64 any_value (items_of e)
field_of (kind.Optional e) = many U8 1 (items_of e)
field_of kind.Xid = xid

-- a field of the table: its role, 003's name for that, and its kind
pub record Entered : Type 0 where
  pub role : ℕ
  pub name : String
  pub kind : Kind

abbrev pub field : ℕ → String → Kind → Entered
field r n k = record { role = r; name = n; kind = k }

-- n bytes, a number, document 01's S, document 01's L, a part that follows a flag
abbrev pub bytes : ℕ → Kind
bytes n = kind.One (Raw n)

abbrev pub number : Item → Kind
number i = kind.One i

abbrev pub string : Kind
string = kind.One Str

abbrev pub list : Element → Kind
list e = kind.List e

abbrev pub optional : Element → Kind
optional e = kind.Optional e

-- document 01's E, the execution id, first in every payload
abbrev pub execution : Entered
execution = field Execution "execution" (bytes 16)

-- a domain's id and name
abbrev pub domain_id : Entered
domain_id = field DomainId "domain.id" (bytes 16)

abbrev pub domain_name : Entered
domain_name = field DomainName "domain.name" string

-- document 01's X, and the resource that it belongs to
abbrev pub xid_field : Entered
xid_field = field Xid "xid" kind.Xid

abbrev pub resource : Entered
resource = field Resource "resource" (number (any_number U32))

-- ---- the table

-- a message: its type, its first and its last version, and its fields
pub record Row : Type 0 where
  pub message : ℕ
  pub first : ℕ
  pub last : ℕ
  pub entries : List Entered

abbrev pub row : ℕ → ℕ → ℕ → List Entered → Row
row t a b es = record { message = t; first = a; last = b; entries = es }

-- the eleven messages, in document 01's order; 7201's version is 0 or 1000 to 1004
abbrev pub table : List Row
table =
    row 7200 1000 1004 (execution ∷ domain_id ∷ domain_name ∷ field ProtocolVersions "protocol.versions" (list Version) ∷ [])
    ∷ row 7201 1000 1004
    (execution ∷ domain_id ∷ domain_name ∷ field ProtocolVersion "protocol.version" (number (Num U64 (record { most = 0; from = 1000; to = 1004 }))) ∷ [])
    ∷ row 7202 1001 1004 (execution ∷ [])
    ∷ row 7203 1001 1004 (execution ∷ [])
    ∷ row 7300 1000 1004
    (execution
    ∷ domain_id
    ∷ domain_name
    ∷ field Services "content.services" (list ServiceName)
    ∷ field Queues "content.queues" (list QueueName)
    ∷ [])
    ∷ row 7302 1002 1004 (execution ∷ field Domains "domains" (list Domain) ∷ [])
    ∷ row 7311 1004 1004
    (execution
    ∷ domain_id
    ∷ domain_name
    ∷ field Services "content.services" (list Service)
    ∷ field Queues "content.queues" (list Queue)
    ∷ [])
    ∷ row 3103 1003 1004
    (execution
    ∷ field CodeResult "code.result" (number (any_number U32))
    ∷ field CodeUser "code.user" (number (any_number U64))
    ∷ field TransactionState "transaction_state" (number (up_to U8 3))
    ∷ field BufferType "buffer.type" string
    ∷ field BufferData "buffer.data" string
    ∷ [])
    ∷ row 5205 1000 1004 (execution ∷ xid_field ∷ resource ∷ field Flags "flags" (number (any_number U64)) ∷ [])
    ∷ row 5206 1000 1004 (execution ∷ xid_field ∷ resource ∷ field State "state" (number (any_number U32)) ∷ [])
    ∷ row 6201 1000 1002 (execution ∷ field Messages "message" (list Message) ∷ [])
    ∷ []

-- ---- what the table says of a type

-- its fields; none where it is unknown
abbrev pub entries_in : List Row → ℕ → List Entered
entries_in [] t = []
entries_in (r ∷ rs) t = cond (eqb t r.message) r.entries (entries_in rs t)

unfoldable pub entries_of : ℕ → List Entered
entries_of t = entries_in table t

-- a field as the code has it: without 003's name
abbrev pub row_field : Entered → RowField
row_field e = record { role = e.role; kind = e.kind }

-- field k of some, if there is one
abbrev pub entry_at : List Entered → ℕ → Option RowField
entry_at [] k = None
entry_at (e ∷ es) zero = Some (row_field e)
entry_at (e ∷ es) (suc k) = entry_at es k

-- the items of an element as fields
abbrev pub item_fields : List EnteredItem → List Entered
item_fields [] = []
item_fields (e ∷ es) = field e.role e.name (kind.One e.item) ∷ item_fields es

-- the fields of a message type, or of an element
unfoldable pub entries_from : Source → List Entered
entries_from (source.Message t) = entries_of t
entries_from (source.Element e) = item_fields (item_entries e)

-- its layout
abbrev pub fields_of : List Entered → Fields
fields_of [] = []
fields_of (e ∷ es) = e.name is field_of e.kind ∷ fields_of es

unfoldable pub layout : ℕ → Fields
layout t = fields_of (entries_of t)

-- its versions; none where it is unknown
abbrev pub versions_in : List Row → ℕ → Option Versions
versions_in [] t = None
versions_in (r ∷ rs) t = cond (eqb t r.message) (Some (record { first = r.first; last = r.last })) (versions_in rs t)

unfoldable pub versions_of : ℕ → Option Versions
versions_of t = versions_in table t

-- a type is known
abbrev pub known : Option Versions → Bool
known None = false
known (Some x) = true

-- a type is in a version
abbrev pub holds : Option Versions → ℕ → Bool
holds None v = false
holds (Some x) v = leb x.first v && leb v x.last

-- an agreed version is one of 1000 to 1004
abbrev pub served : ℕ → Bool
served v = leb 1000 v && leb v 1004
