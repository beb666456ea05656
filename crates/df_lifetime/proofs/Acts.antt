-- The acts of a session: what each was supplied with is in range, and what a stop leaves of them came through.
use Rattle.std.{proofs.Common.{◌≡◌, inl, inr, ℕ, zero, suc, List, [], ◌∷◌, ◌++◌, Option, Some, None, refl, ap}, specs.Prelude.{take, drop}}
use Rattle.{df_base.specs.Image.{Image}, df_disk.specs.Told.{Told}, df_model.specs.Work.{Work}}
use Rattle.df_session.specs.{Below.{State as Replica, DataFile}, HeldBlocks.{AreInputs}, Serving.{Grade, next}, Session.{Act, Exchange, HasView, HoldsSome, acts_in, answers_in, answers_of, work_after}, Links.{AreCalls, EndsCalls, More, list_of}}

-- ---- what they were supplied with

calls_inputs : (s t : Replica) (old new : Option Told) (xs : List Exchange) → AreCalls s old xs t new → AreInputs (acts_in xs)
calls_inputs s t old new [] calls = tt
calls_inputs s t old new (x ∷ xs) (More u mid c rest) = (c.call.input, calls_inputs u t mid new xs rest)

pub inputs_join : (acts more : List Act) → AreInputs acts → AreInputs more → AreInputs (acts ++ more)
inputs_join [] more one two = two
inputs_join (a ∷ acts) more one two = (one.0, inputs_join acts more one.1 two)

pub ends_inputs : (s t : Replica) (old new : Option Told) (xs : List Exchange) (failed : Option Act)
    → EndsCalls s t old new xs failed → AreInputs (acts_in xs ++ list_of failed)
ends_inputs s t old new xs None calls = inputs_join (acts_in xs) [] (calls_inputs s t old new xs calls) tt
ends_inputs s t old new xs (Some a) calls =
    inputs_join (acts_in xs) (a ∷ []) (calls_inputs s calls.0 old calls.1 xs calls.2) (calls.3.call.input, tt)

-- ---- the first of them, and the others

pub front_and_rest : (k : ℕ) (xs : List Exchange) (more : List Act) → acts_in (take k xs) ++ (acts_in (drop k xs) ++ more) ≡ acts_in xs ++ more
front_and_rest zero xs more = refl
front_and_rest (suc k) [] more = refl
front_and_rest (suc k) (x ∷ xs) more = ap (λ (l : List Act). x.act ∷ l) (front_and_rest k xs more)

pub work_on : (file : DataFile) (w : Work) (acts more : List Act)
    → work_after file w (acts ++ more) ≡ work_after file (work_after file w acts) more
work_on file w [] more = refl
work_on file w (a ∷ acts) more = work_on file (next file w a.given a.command).0 acts more

pub first_answers : (file : DataFile) (k : ℕ) (w : Work) (xs : List Exchange)
    → answers_in xs ≡ answers_of file w (acts_in xs) → answers_in (take k xs) ≡ answers_of file w (acts_in (take k xs))
first_answers file zero w xs are = refl
first_answers file (suc k) w [] are = refl
first_answers file (suc k) w (x ∷ xs) are = let one : x.answer ≡ (next file w x.act.given x.act.command).1 = cc in
    let rest : answers_in xs ≡ answers_of file (next file w x.act.given x.act.command).0 (acts_in xs) = cc in
    λ i. one i ∷ first_answers file k (next file w x.act.given x.act.command).0 xs rest i

-- ---- what a stop leaves of them

-- the image has the view after the first of these acts
pub record HasFront (file : DataFile) (g : Grade) (w : Work) (acts : List Act) (image : Image) : Type 0 where
  pub front : List Act
  pub rest : List Act
  pub are : acts ≡ front ++ rest
  pub has : HasView file g (work_after file w front) image

pub has_front : (file : DataFile) (g : Grade) (w : Work) (acts : List Act) (image : Image)
    → HoldsSome file g w acts image → HasFront file g w acts image
has_front file g w [] image has = record { front = []; rest = []; are = refl; has = has }
has_front file g w (a ∷ acts) image (inl has) = record { front = []; rest = a ∷ acts; are = refl; has = has }
has_front file g w (a ∷ acts) image (inr more) = let later = has_front file g (next file w a.given a.command).0 acts image more in
    record { front = a ∷ later.front; rest = later.rest; are = ap (λ (l : List Act). a ∷ l) later.are; has = later.has }
