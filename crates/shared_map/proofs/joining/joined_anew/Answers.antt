use Rattle.shared_map.proofs.joining.joined_anew.Goals as goal

pub joined_beside-requires : goal.joined_beside-requires
joined_beside-requires g c = rw c.in_ok-other.ensures (record { level = c.requires.level; few = c.requires.few })

pub returns : goal.returns
returns g c = rw (← c.in_ok-other.ensures) c.joined_beside.ensures
