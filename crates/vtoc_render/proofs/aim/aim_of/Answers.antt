use Rattle.vtoc_render.proofs.aim.aim_of.Goals as goal

pub name_bytes-requires : goal.name_bytes-requires
name_bytes-requires c = c.requires c.in-Remove.name c.in-Remove.is
