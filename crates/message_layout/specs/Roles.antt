-- The roles of fields: our numbers for document 003's names, for naming a field in a call. The names and the ids of several lists' elements have one
-- role each. Above each number stands 003's name, as specs/Table has it.
use Rattle.std.specs.Prelude.{ℕ}

-- ---- of a message

-- execution
abbrev pub Execution : ℕ
Execution = 0

-- domain.id
abbrev pub DomainId : ℕ
DomainId = 1

-- domain.name
abbrev pub DomainName : ℕ
DomainName = 2

-- protocol.versions
abbrev pub ProtocolVersions : ℕ
ProtocolVersions = 3

-- protocol.version
abbrev pub ProtocolVersion : ℕ
ProtocolVersion = 4

-- content.services
abbrev pub Services : ℕ
Services = 5

-- content.queues
abbrev pub Queues : ℕ
Queues = 6

-- domains
abbrev pub Domains : ℕ
Domains = 7

-- code.result
abbrev pub CodeResult : ℕ
CodeResult = 8

-- code.user
abbrev pub CodeUser : ℕ
CodeUser = 9

-- transaction_state
abbrev pub TransactionState : ℕ
TransactionState = 10

-- buffer.type
abbrev pub BufferType : ℕ
BufferType = 11

-- buffer.data
abbrev pub BufferData : ℕ
BufferData = 12

-- xid
abbrev pub Xid : ℕ
Xid = 13

-- resource
abbrev pub Resource : ℕ
Resource = 14

-- flags
abbrev pub Flags : ℕ
Flags = 15

-- state
abbrev pub State : ℕ
State = 16

-- message
abbrev pub Messages : ℕ
Messages = 17

-- ---- of a list's elements

-- protocol.versions.element
abbrev pub Offered : ℕ
Offered = 18

-- content.services.element and content.queues.element of a 7300; domains.element.name; content.services.element.name and
-- content.queues.element.name of a 7311
abbrev pub Name : ℕ
Name = 19

-- content.services.element.category
abbrev pub Category : ℕ
Category = 20

-- content.services.element.transaction
abbrev pub Transaction : ℕ
Transaction = 21

-- content.services.element.timeout.duration
abbrev pub Timeout : ℕ
Timeout = 22

-- content.services.element.hops
abbrev pub Hops : ℕ
Hops = 23

-- content.queues.element.retry.count
abbrev pub RetryCount : ℕ
RetryCount = 24

-- content.queues.element.retry.delay
abbrev pub RetryDelay : ℕ
RetryDelay = 25

-- content.queues.element.enable.enqueue
abbrev pub Enqueue : ℕ
Enqueue = 26

-- content.queues.element.enable.dequeue
abbrev pub Dequeue : ℕ
Dequeue = 27

-- domains.element.id and message.element.id
abbrev pub Id : ℕ
Id = 28

-- message.element.attributes.properties
abbrev pub Properties : ℕ
Properties = 29

-- message.element.attributes.reply
abbrev pub ReplyQueue : ℕ
ReplyQueue = 30

-- message.element.attributes.available
abbrev pub Available : ℕ
Available = 31

-- message.element.payload.type
abbrev pub DataType : ℕ
DataType = 32

-- message.element.payload.data
abbrev pub Data : ℕ
Data = 33

-- message.element.redelivered
abbrev pub Redelivered : ℕ
Redelivered = 34

-- message.element.timestamp
abbrev pub Timestamp : ℕ
Timestamp = 35
