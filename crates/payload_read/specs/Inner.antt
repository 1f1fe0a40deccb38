-- What a private function promises of a field of an element. No contract of a public call cites it.
use Rattle.std.specs.Prelude.{ℕ, List}
use Rattle.wire.specs.Reading.{Outcome, read_item}
use Rattle.message_layout.specs.declared.Kind.{Kind}
use Rattle.message_layout.specs.declared.Kind.TheVariants as kind

-- a field of an element is one item; it has no list, no part behind a flag and no xid, and of those nothing is read
abbrev pub read_one : Kind → List ℕ → Outcome → Outcome
read_one (kind.One i) s o = read_item i s o
read_one (kind.List e) s o = o
read_one (kind.Optional e) s o = o
read_one kind.Xid s o = o
