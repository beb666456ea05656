-- Commands and answers are those of a generated run.
use Rattle.std.specs.Prelude.{◌≡◌, List, [], ◌∷◌, Some}
use Rattle.df_model.specs.Commands.{Answer, Command}
use Rattle.df_workload.specs.{Asking.{asks}, Hearing.{heard}, declared.state.State.{State}}

-- from the state s on these commands were asked for and got these answers, and then the state is end
abbrev pub Follows : (s : State) → List Command → List Answer → (end : State) → Type 0
Follows s [] [] end = end ≡ s
Follows s [] (x ∷ answers) end = ⊥
Follows s (c ∷ commands) [] end = ⊥
Follows s (c ∷ commands) (x ∷ answers) end = (asks s ≡ Some c) × Follows (heard x s) commands answers end
