-- What a sink has taken goes on, piece by piece.
use Rattle.std.proofs.{Common.{◌≡◌, ℕ, List, [], ◌++◌, Option, Some, None, Result, Ok, Err, IsErr, OnOk, OnErr, append-nil, sym, subst}, lemmas.Bool.{false≢true}}
use Rattle.df_base.{specs.Streams.{Appends, AppendsPart}, proofs.Laws.{appends_more, appends_part, part_of_more}}
use Rattle.df_inspect.specs.Prints.{Prints}

-- nothing more is taken
pub appends_none : (old : Option (List ℕ)) → Appends old old []
appends_none None = tt
appends_none (Some xs) = sym (append-nil xs)

-- after a text that was taken whole, a call prints another one
pub prints_more : {T E : Type 0} (x y : List ℕ) (old mid new : Option (List ℕ)) (result : Result T E)
    → Appends old mid x → Prints y mid new result → Prints (x ++ y) old new result
prints_more x y old mid new (Ok v) one two = record { whole = appends_more old mid new x y one two.whole; part = tt }
prints_more x y old mid new (Err e) one two = record { whole = tt; part = appends_part old mid new x y one two.part }

-- a call that failed within the first of two texts has printed a front of both
pub prints_front : {T E : Type 0} (x y text : List ℕ) (old new : Option (List ℕ)) (result : Result T E)
    → IsErr result → text ≡ x ++ y → AppendsPart old new x → Prints text old new result
prints_front x y text old new (Ok v) failed is part = absurd (false≢true failed)
prints_front x y text old new (Err e) failed is part =
    record { whole = tt; part = subst (λ (l : List ℕ). AppendsPart old new l) (sym is) (part_of_more old new x y part) }

pub prints_same : {T E : Type 0} (x text : List ℕ) (old new : Option (List ℕ)) (result : Result T E)
    → text ≡ x → Prints x old new result → Prints text old new result
prints_same x text old new result is prints = subst (λ (l : List ℕ). Prints l old new result) (sym is) prints

-- what an answer of a sink says, as one fact
pub prints_of : {T E : Type 0} (text : List ℕ) (old new : Option (List ℕ)) (result : Result T E)
    → OnOk result (Appends old new text) → OnErr result (AppendsPart old new text) → Prints text old new result
prints_of text old new result whole part = record { whole = whole; part = part }
