-- What the contracts here and above cite of the crates below this one.
pub use Rattle.df_base.specs.Fields.{AreBytes}
pub use Rattle.df_layout.specs.{declared.places.Zone.{Zone}, declared.places.Zone.TheVariants.{ClientReplies, Grid, Superblock, WalHeaders, WalPrepares}}
pub use Rattle.df_format.specs.{Copies.{has_checksum, own_copy}, Making.{for_body}, Message.{Message, sectors_end, sectors_of}, Own.{own_place}, Rules.{ObeysRules}, Spelling.{IsCheck, sealed}}
pub use Rattle.df_format.specs.{UnitLaws.{MadeIsUnit, place_size}, Wanted.{IsWanted}, Whole.{greatest_size}, declared.kind.Kind.{Kind}, declared.kind.Kind.TheVariants.{Block, Prepare, Reply, Trailer}}
