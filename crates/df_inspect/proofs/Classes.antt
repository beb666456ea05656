-- Classes in a line, one after the other.
use Rattle.std.proofs.{Common.{◌≡◌, ℕ, ◌+◌, ◌<◌, List, [], ◌∷◌, ◌++◌, length, get_or, take, ap, ◌∙◌, append_assoc, rules}, lemmas.List.{take_more}}
use Rattle.{df_layout.specs.declared.damage.Class.{Class}, df_script_model.specs.Texts.{class_text}}
use Rattle.df_inspect.specs.Opening.{classes_text}

one_more : (cs : List Class) (c : Class) → classes_text (cs ++ c ∷ []) ≡ classes_text cs ++ (32 ∷ class_text c)
one_more [] c = search rules
one_more (b ∷ cs) c = rw (one_more cs c) (search (rules, append_assoc))

classes_more : (cs : List Class) (i : ℕ) (d : Class)
    → i < length cs → classes_text (take (i + 1) cs) ≡ classes_text (take i cs) ++ (32 ∷ class_text (get_or cs i d))
classes_more cs i d within = ap classes_text (take_more cs i d within) ∙ one_more (take i cs) (get_or cs i d)

-- what a line has after one class more
pub put_more : (old line spaced new : List ℕ) (cs : List Class) (i : ℕ) (d : Class)
    → i < length cs → line ≡ old ++ classes_text (take i cs) → spaced ≡ line ++ 32 ∷ [] → new ≡ spaced ++ class_text (get_or cs i d)
    → new ≡ old ++ classes_text (take (i + 1) cs)
put_more old line spaced new cs i d within so_far space put =
    rw (classes_more cs i d within, put, space, so_far) (search (rules, append_assoc))
