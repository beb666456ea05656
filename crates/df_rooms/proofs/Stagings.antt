-- Rooms that move from one list to another.
use Rattle.std.{proofs.{Common.{◌≡◌, ◌<◌, ◌+◌, ℕ, List, [], ◌∷◌, ◌++◌, length, get_or, map, Some, ◌∙◌, ap, length-append, arith}, lemmas.List.{length-map}, lemmas.List.Elements.{All-get_or, All-pop, All-push, All-same}}, specs.List.{All}}
use Rattle.{df_layout.specs.declared.layout.Layout.{Layout}, df_buffers.specs.Rooms.{Room}}
use Rattle.df_rooms.specs.{Stagings.{AreFree, AreHeld, first_request, request_in}, declared.staging.Held.{Held}}

-- the last one of a list goes to the free ones: each is of the layout, as it was
pub moved_fit : {X : Type 0} (of : X → Layout) (layout : Layout) (free new : List Room) (xs ys : List X) (x : X) (room : Room)
    → new ≡ free ++ room ∷ [] → xs ≡ ys ++ x ∷ [] → room.layout ≡ of x
    → AreFree layout free → All (λ (y : X). of y ≡ layout) xs → AreFree layout new × All (λ (y : X). of y ≡ layout) ys
moved_fit {X} of layout free new xs ys x room added taken same fit are =
    let parts = All-pop (λ (y : X). of y ≡ layout) xs ys (Some x) taken are in
    (All-same (λ (r : Room). r.layout ≡ layout) new (free ++ room ∷ []) added (All-push (λ (r : Room). r.layout ≡ layout) free room fit (same ∙ parts.1)), parts.0)

-- and there are as many
pub moved_all : {X : Type 0} (free new : List Room) (xs ys : List X) (x : X) (room : Room) (n : ℕ)
    → new ≡ free ++ room ∷ [] → xs ≡ ys ++ x ∷ [] → length free + length xs ≡ n → length new + length ys ≡ n
moved_all {X} free new xs ys x room n added taken is =
    omega (arith, ap (λ (l : List Room). length l) added, length-append free (room ∷ []), ap (λ (l : List X). length l) taken, length-append ys (x ∷ []), is)

-- the first one that is held has the body of the first request, and its room is of the layout
pub first_body : (xs : List Held) (h : Held)
    → 0 < length (map request_in xs) → h ≡ get_or xs 0 h → h.room.body ≡ (first_request (map request_in xs)).body
first_body [] h some is = absurd (omega (arith, some))
first_body (x ∷ xs) h some is = ap (λ (k : Held). k.room.body) is

pub first_fit : (layout : Layout) (xs : List Held) (h : Held)
    → 0 < length (map request_in xs) → h ≡ get_or xs 0 h → AreHeld layout xs → h.room.layout ≡ layout
first_fit layout xs h some is fit = ap (λ (k : Held). k.room.layout) is
    ∙ All-get_or (λ (k : Held). k.room.layout ≡ layout) xs 0 h (omega (arith, some, length-map xs request_in)) fit
