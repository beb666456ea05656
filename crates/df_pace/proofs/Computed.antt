-- Worked scripts compute.
use Rattle.{std.{proofs.Common.{refl}, specs.Fmt.{digits}}, hex.specs.Hex.{encode_with}}
use Rattle.df_pace.specs.Worked.{FullRing, GroupsCount, LongSession, OwnCheckpoint, RefusedBegin}

pub long_session : LongSession
unfolding digits encode_with
long_session named some = (refl, refl)

pub full_ring : FullRing
unfolding digits encode_with
full_ring named some = refl

pub refused_begin : RefusedBegin
unfolding digits encode_with
refused_begin named some = (refl, refl)

pub own_checkpoint : OwnCheckpoint
unfolding digits encode_with
own_checkpoint named some = (refl, refl)

pub groups_count : GroupsCount
unfolding digits encode_with
groups_count named some = (refl, refl, refl)
