-- What the proofs above cite of this crate's: which faults a status blames, and that a name is of one layout.
pub use Rattle.df_program.proofs.Blame.{AreApart, fault_causes, its_blame, no_blame, nothing_failed, open_causes, open_fault, refusal_ends, text_causes, text_ends}
pub use Rattle.df_program.proofs.Disks.{first_causes, neither_causes, printed_causes, second_causes, unopened_causes}
pub use Rattle.df_program.proofs.Layouts.{one_layout}
