-- The columns of a list agree: the tests of the code, one for each column, are the specification's.
use Prim.Native.Nat.{ℕ}
use mathlib.Core.Path.{◌≡◌}
use mathlib.Core.Bool.{Bool, ◌&&◌, and_assoc, and-true}
use mathlib.Core.List.{List}
use lib.ListN.{length}
use lib.Dec.{eqb}
use Rattle.wire.specs.declared.Item.TheVariants.{Raw, Str}
use Rattle.message_layout.specs.Table.{field_of, list, items_of}
use Rattle.message_layout.specs.declared.Element.TheVariants.{ServiceName, Domain, Service, Queue, Message}
use Rattle.message_lent.specs.Lent.{agrees, column_agrees, columns_agree}
use Rattle.message_lent.specs.Lists.{service_names, domains, services, queues, messages}

module _ (ls ns : List ℕ) where
  pub names_agree_lem : (s : Bool) → s ≡ column_agrees (length ls) Str ((ls, ns)) → s ≡ agrees (field_of (list ServiceName)) (service_names ls ns)
  unfolding service_names items_of agrees columns_agree column_agrees
  names_agree_lem s es = rw es (simp and-true)

  pub domains_agree_lem : (is : List ℕ) (r s : Bool) → r ≡ column_agrees (length ls) (Raw 16) is → s ≡ column_agrees (length ls) Str ((ls, ns))
      → (r && s) ≡ agrees (field_of (list Domain)) (domains is ls ns)
  unfolding domains items_of agrees columns_agree column_agrees
  domains_agree_lem is r s er es = rw (er, es) (simp (and_assoc, and-true))

  pub services_agree_lem : (gl gs modes timeouts hops : List ℕ) (s t a b d : Bool) → s ≡ column_agrees (length ls) Str ((ls, ns)) → t ≡ column_agrees (length ls) Str ((gl, gs))
      → a ≡ eqb (length modes) (length ls) → b ≡ eqb (length timeouts) (length ls) → d ≡ eqb (length hops) (length ls)
      → (s && t && a && b && d) ≡ agrees (field_of (list Service)) (services ls ns gl gs modes timeouts hops)
  unfolding services items_of agrees columns_agree column_agrees
  services_agree_lem gl gs modes timeouts hops s t a b d es et ea eb ed = rw (es, et, ea, eb, ed) (simp (and_assoc, and-true))

  pub queues_agree_lem : (counts delays ens des : List ℕ) (s a b d f : Bool) → s ≡ column_agrees (length ls) Str ((ls, ns))
      → a ≡ eqb (length counts) (length ls) → b ≡ eqb (length delays) (length ls) → d ≡ eqb (length ens) (length ls) → f ≡ eqb (length des) (length ls)
      → (s && a && b && d && f) ≡ agrees (field_of (list Queue)) (queues ls ns counts delays ens des)
  unfolding queues items_of agrees columns_agree column_agrees
  queues_agree_lem counts delays ens des s a b d f es ea eb ed ef = rw (es, ea, eb, ed, ef) (simp (and_assoc, and-true))

  pub messages_agree_lem : (is rl rs av tl ts dl ds re ti : List ℕ) (r s t a u w y z : Bool) → r ≡ column_agrees (length ls) (Raw 16) is → s ≡ column_agrees (length ls) Str ((ls, ns))
      → t ≡ column_agrees (length ls) Str ((rl, rs)) → a ≡ eqb (length av) (length ls) → u ≡ column_agrees (length ls) Str ((tl, ts)) → w ≡ column_agrees (length ls) Str ((dl, ds))
      → y ≡ eqb (length re) (length ls) → z ≡ eqb (length ti) (length ls)
      → (r && s && t && a && u && w && y && z) ≡ agrees (field_of (list Message)) (messages is ls ns rl rs av tl ts dl ds re ti)
  unfolding messages items_of agrees columns_agree column_agrees
  messages_agree_lem is rl rs av tl ts dl ds re ti r s t a u w y z er es et ea eu ew ey ez = rw (er, es, et, ea, eu, ew, ey, ez) (simp (and_assoc, and-true))
