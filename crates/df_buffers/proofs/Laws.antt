-- What the proofs above cite of this crate's: no kind of unit has a whole slot of the header ring.
pub use Rattle.df_buffers.proofs.Finds.{is_no_ring}
