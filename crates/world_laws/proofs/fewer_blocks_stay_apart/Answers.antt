use Rattle.world_laws.proofs.fewer_blocks_stay_apart.Goals as goal

pub returns : goal.returns
returns c = λ blocks more within apart b d b_in d_in same. apart b d (within b b_in) (within d d_in) same
