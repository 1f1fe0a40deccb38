use Rattle.boundary_link.proofs.finish.Goals as goal

pub save-requires : goal.save-requires
save-requires c = c.requires
