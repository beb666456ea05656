-- What a sink has taken goes on, piece by piece.
use Rattle.std.proofs.{Common.{ℕ, ◌+◌, List, ◌++◌, length, take, Option, Some, None, sym, ◌∙◌, ap, subst, arith, append_assoc, length-append}, lemmas.List.{take-append-le}, Math.Seq.{take-append-add}}
use Rattle.df_base.specs.Streams.{Appends, AppendsPart}

pub appends_more : (old mid new : Option (List ℕ)) (x y : List ℕ) → Appends old mid x → Appends mid new y → Appends old new (x ++ y)
appends_more None None None x y one two = tt
appends_more None None (Some n) x y one two = absurd two
appends_more None (Some m) new x y one two = absurd one
appends_more (Some o) None new x y one two = absurd one
appends_more (Some o) (Some m) None x y one two = absurd two
appends_more (Some o) (Some m) (Some n) x y one two = two ∙ ap (λ (l : List ℕ). l ++ y) one ∙ append_assoc o x y

pub appends_part : (old mid new : Option (List ℕ)) (x y : List ℕ) → Appends old mid x → AppendsPart mid new y → AppendsPart old new (x ++ y)
appends_part old mid new x y one two =
    (length x + two.0, omega (arith, two.1, length-append x y), subst (λ (l : List ℕ). Appends old new l) (sym (take-append-add x y two.0)) (appends_more old mid new x (take two.0 y) one two.2))

-- a front of a text is a front of every longer one
pub part_of_more : (old new : Option (List ℕ)) (x y : List ℕ) → AppendsPart old new x → AppendsPart old new (x ++ y)
part_of_more old new x y part =
    (part.0, omega (arith, part.1, length-append x y), subst (λ (l : List ℕ). Appends old new l) (sym (take-append-le part.0 x y part.1)) part.2)
