-- What the crates above cite: what a survey of a file of version 1 answers, also of a disk that may be hurt.
pub use Rattle.df_damage.proofs.Laws.{answer_is_of_hurt_as, found_is_not_refused_as, headers_may_be_hurt_as, probe_is_of_hurt_as, super_as, two_copies_are_enough_as}
