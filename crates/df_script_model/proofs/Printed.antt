-- A script of calls prints the answers' texts.
use Rattle.{std.proofs.Common.{ℕ, List, [], ◌∷◌, refl, ap}, df_model.specs.{Memory.{memory_of}, Supply.{next, shown_after}}}
use Rattle.df_script_model.specs.Script.{PrintedLaw, answer_text}

pub printed_law : PrintedLaw
printed_law sh codec shown w [] = refl
printed_law sh codec shown w (c ∷ cs) = ap (λ (more : List (List ℕ)). answer_text c (next sh codec shown w c).1
    ∷ more) (printed_law sh codec (shown_after codec shown (memory_of sh codec.spell w) c) (next sh codec shown w c).0 cs)
