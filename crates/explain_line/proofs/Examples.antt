-- Lines as document 02's T-08 has them, computed from their reasons.
use mathlib.Core.Path.{◌≡◌, refl}
use Rattle.std.specs.Prelude.{None, Some}
use Rattle.wire.specs.declared.Fault.TheVariants.{NotWhole, NoSuchVersion, UnknownType, RunsPast, NotAllowed, BytesAfter}
use Rattle.message_layout.specs.Table.{entries_from, entries_of}
use Rattle.message_layout.specs.declared.Element.TheVariants.{Version, Service}
use Rattle.message_layout.specs.declared.Source.TheVariants.{Message, Element}
use Rattle.message_names.specs.Names.{name_of}
use Rattle.message_walk.specs.declared.FieldName.TheVariants as name
use Rattle.message_walk.specs.declared.Detail.TheVariants.{Room, Value, Left}
use Rattle.message_walk.specs.Reasons.{reason}
use Rattle.text.specs.Text.{words, decimal, digits_below}
use Rattle.explain_line.specs.Parts.{field_word}
use Rattle.explain_line.specs.Lines.{field_part, element_part, detail_part, parts, explain_line}

accepted : explain_line None ≡ words "answer 0\n"
unfolding explain_line parts decimal digits_below
accepted = refl

no_header : explain_line (Some (reason NotWhole (Some name.Header) None (Room 32 0))) ≡ words "answer 1 field header needed 32 had 0\n"
unfolding explain_line parts field_part element_part detail_part field_word decimal digits_below
no_header = refl

version : explain_line (Some (reason NoSuchVersion None None (Value 999))) ≡ words "answer 40 value 999\n"
unfolding explain_line parts field_part element_part detail_part field_word decimal digits_below
version = refl

type : explain_line (Some (reason UnknownType (Some name.HeaderType) None (Value 1))) ≡ words "answer 41 field header.type value 1\n"
unfolding explain_line parts field_part element_part detail_part field_word decimal digits_below
type = refl

data_past : explain_line (Some (reason RunsPast (Some (name.Piece (Message 7200) 2 1)) None (Room 20 3))) ≡ words "answer 44 field domain.name.data needed 20 had 3\n"
unfolding explain_line parts field_part element_part detail_part field_word name_of entries_from entries_of decimal digits_below
data_past = refl

lying_count : explain_line (Some (reason RunsPast (Some (name.Piece (Element Version) 0 0)) (Some 5) (Room 8 0)))
    ≡ words "answer 44 field protocol.versions.element element 5 needed 8 had 0\n"
unfolding explain_line parts field_part element_part detail_part field_word name_of entries_from entries_of decimal digits_below
lying_count = refl

mode : explain_line (Some (reason NotAllowed (Some (name.Piece (Element Service) 2 0)) (Some 0) (Value 4)))
    ≡ words "answer 45 field content.services.element.transaction element 0 value 4\n"
unfolding explain_line parts field_part element_part detail_part field_word name_of entries_from entries_of decimal digits_below
mode = refl

left_over_lem : explain_line (Some (reason BytesAfter None None (Left 1))) ≡ words "answer 46 left 1\n"
unfolding explain_line parts field_part element_part detail_part field_word decimal digits_below
left_over_lem = refl
