-- Worked sessions compute.
use Rattle.{std.{proofs.Common.{refl}, specs.Fmt.{digits}}, hex.specs.Hex.{encode_with}}
use Rattle.df_script_model.specs.Sessions.{BlockSession, FirstSession, FullGrid, FullPipeline, FullStaged, FullTable, GroupSession, RingSession, ScrubSession}

pub first_session : FirstSession
unfolding digits encode_with
first_session named some = refl

pub group_session : GroupSession
unfolding digits encode_with
group_session named some = refl

pub full_staged : FullStaged
unfolding digits encode_with
full_staged named some = (refl, refl)

pub ring_session : RingSession
unfolding digits encode_with
ring_session named some = refl

pub full_table : FullTable
unfolding digits encode_with
full_table named some = refl

pub full_pipeline : FullPipeline
unfolding digits encode_with
full_pipeline named some = refl

pub block_session : BlockSession
unfolding digits encode_with
block_session named some = refl

pub full_grid : FullGrid
unfolding digits encode_with
full_grid named some = refl

pub scrub_session : ScrubSession
unfolding digits encode_with
scrub_session named some = refl
