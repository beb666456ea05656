-- Lines one after the other: a map answers those of two lists as those of one.
use Rattle.std.proofs.Common.{◌≡◌, ◌+◌, ℕ, List, [], ◌∷◌, ◌++◌, length, refl, sym, ◌∙◌, ap, append_assoc, add_assoc, length-append}
use Rattle.df_base.proofs.Laws.{plus_zero}
use Rattle.df_rows.specs.{declared.command.Command.{Command}, Grammar.{Said}, Lines.{accepted, all_accepted, all_behind, line_of_turn, map_text, table_after}, Tables.{Table, with_commands}}

pub accepted_more : (t : Table) (says more : List Said)
    → all_accepted t (says ++ more) ≡ all_accepted t says ++ all_accepted (all_behind t says) more
accepted_more t [] more = refl
accepted_more t (said ∷ says) more = ap (λ (l : List Command). accepted t said ++ l) (accepted_more (table_after t said) says more) ∙
    sym (append_assoc (accepted t said) (all_accepted (table_after t said) says) (all_accepted (all_behind (table_after t said) says) more))

pub commands_more : (cs ds : List Command) (t : Table) → with_commands (cs ++ ds) t ≡ with_commands ds (with_commands cs t)
commands_more [] ds t = refl
commands_more (c ∷ cs) ds t = commands_more cs ds _

-- the text of lines, and of others after them
pub text_more : (t : Table) (n : ℕ) (says more : List Said)
    → map_text t n (says ++ more) ≡ map_text t n says ++ map_text (all_behind t says) (n + length (all_accepted t says)) more
text_more t n [] more = ap (λ (m : ℕ). map_text t m more) (plus_zero n)
text_more t n (said ∷ says) more = let k = length (accepted t said) in let rest = length (all_accepted (table_after t said) says) in
    let count : (n + k) + rest ≡ n + length (all_accepted t (said ∷ says)) =
    add_assoc n k rest ∙ ap (λ (m : ℕ). n + m) (sym (length-append (accepted t said) (all_accepted (table_after t said) says))) in
    ap (λ (l : List ℕ). line_of_turn t n said ++ l) (text_more (table_after t said) (n + k) says more)
    ∙ (sym (append_assoc (line_of_turn t n said)
    (map_text (table_after t said) (n + k) says) (map_text (all_behind (table_after t said) says) ((n + k) + rest) more)) ∙ ap (λ (m : ℕ).
    (line_of_turn t n said ++ map_text (table_after t said) (n + k) says) ++ map_text (all_behind (table_after t said) says) m more) count)
