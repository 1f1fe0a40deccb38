use Rattle.message_layout.specs.Table.{entries_from}
use Rattle.message_names.specs.Names.{name_of}
use Rattle.message_names.proofs.Naming.{past_fields, past_pieces, at_piece}
use Rattle.message_names.proofs.name_of.Goals as goal

pub returns-in_default : goal.returns-in_default
unfolding name_of
returns-in_default c = past_fields c.names_of.result (entries_from c.args.source) c.names_of.ensures c.args.k c.args.piece (c.in_default.ensures).lookup.3

pub returns-in_default-get : goal.returns-in_default-get
unfolding name_of
returns-in_default-get c = past_pieces c.names_of.result (entries_from c.args.source) c.names_of.ensures c.args.k c.args.piece c.in-Some.names.now (c.in-Some.ensures).lookup.3 (c.in_default-get.ensures).lookup.3

pub returns : goal.returns
unfolding name_of
returns c = at_piece c.names_of.result (entries_from c.args.source) c.names_of.ensures c.args.k c.args.piece c.in-Some.names.now (c.in-Some.ensures).lookup.3 c.in-Some-get.name.now (c.in-Some-get.ensures).lookup.3
