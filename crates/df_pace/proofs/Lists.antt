-- Commands of the loop in turn.
use Rattle.{std.proofs.Common.{◌≡◌, List, [], ◌∷◌, ◌++◌, refl}, df_theory.specs.Shape.{Shape}}
use Rattle.{df_model.specs.{Commands.{Command}, Supply.{Codec}}, df_pace.specs.Loop.{Stand, all_by_loop, by_loop}}

pub loop_join : (sh : Shape) (codec : Codec) (x : Stand) (cs ds : List Command)
    → all_by_loop sh codec x (cs ++ ds) ≡ all_by_loop sh codec (all_by_loop sh codec x cs) ds
loop_join sh codec x [] ds = refl
loop_join sh codec x (c ∷ cs) ds = loop_join sh codec (by_loop sh codec x c) cs ds
