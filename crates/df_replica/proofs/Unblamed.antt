-- No refusal blames the disk: no test of the calls' refusals answers a fault.
use Rattle.std.{proofs.{Common.{◌≡◌, ℕ, true, false, Bool, List, [], ◌∷◌, Option, Some, None, refl, sym, ap, subst}, lemmas.Option.{same_Some}}, specs.Prelude.{if◌then◌else◌, Result, Err}}
use Rattle.{df_base.specs.Causes.{Blamed, IsBlamed}, df_opening.specs.Below.{State}}
use Rattle.df_model.specs.{Commands.{Answer}, Faults.{is_append_fault, is_block_fault, is_flush_fault, is_lookup_fault, is_prepare_fault, is_reply_fault}, Memory.{Memory}, Refusals.{append_refusals, block_refusals, first_refusal, flush_refusals, lookup_refusals, prepare_refusals, reply_refusals}, declared.errors.AppendError.{AppendError}, declared.errors.BlockError.{BlockError}, declared.errors.FlushError.{FlushError}, declared.errors.ReplyError.{ReplyError}, declared.reading.LookupError.{LookupError}, declared.reading.PrepareError.{PrepareError}}
use Rattle.df_replica.specs.{Answering.{answer_of}, Stopping.{left_by, stopped}}

-- none of these tests answers a fault
abbrev AreUnblamed : {E : Type 0} → (is_fault : E → Bool) → List (Bool × E) → Type 0
AreUnblamed is_fault [] = Unit {0}
AreUnblamed is_fault (t ∷ ts) = (is_fault t.1 ≡ false) × AreUnblamed is_fault ts

module _ {E : Type 0} (is_fault : E → Bool) (e : E) where
  unblamed_at : (b : Bool) (x : E) (o : Option E)
      → is_fault x ≡ false → (if b then Some x else o) ≡ Some e → (o ≡ Some e → is_fault e ≡ false) → is_fault e ≡ false
  unblamed_at true x o safe is behind = subst (λ (y : E). is_fault y ≡ false) (same_Some _ _ is) safe
  unblamed_at false x o safe is behind = behind is

  first_unblamed : (ts : List (Bool × E)) → AreUnblamed is_fault ts → first_refusal ts ≡ Some e → is_fault e ≡ false
  first_unblamed [] safe is = let none : None ≡ Some e = is in absurd (cc)
  first_unblamed (t ∷ ts) safe is = unblamed_at t.0 t.1 (first_refusal ts) safe.0 is (λ behind. first_unblamed ts safe.1 behind)

  -- such an answer is told, leaves all as it was, and says that the count is the same
  module _ (no : is_fault e ≡ false) where
    pub refused_answer : {T : Type 0} (told : Result T E → Answer) → answer_of is_fault told (Err e) ≡ Some (told (Err e))
    refused_answer told = ap (λ (b : Bool). if b then None else Some (told (Err e))) no

    pub refused_leaves : (T : Type 0) (s : State) → s ≡ left_by {T = T} is_fault s (Err e)
    refused_leaves T s = sym (ap (λ (b : Bool). if b then stopped s else s) no)

    pub refused_blames : (T : Type 0) (count : ℕ) → IsBlamed {T = T} is_fault count count (Err e)
    refused_blames T count = subst (λ (b : Bool). Blamed b count count) (sym no) refl

pub append_unblamed : (m : Memory) (client request : ℕ) (body : List ℕ) (e : AppendError)
    → first_refusal (append_refusals m client request body) ≡ Some e → is_append_fault e ≡ false
append_unblamed m client request body e = first_unblamed is_append_fault
    e (append_refusals m client request body) (refl, (refl, (refl, (refl, (refl, (refl, (refl, (refl, (refl, (refl, tt))))))))))

pub flush_unblamed : (m : Memory) (e : FlushError) → first_refusal (flush_refusals m) ≡ Some e → is_flush_fault e ≡ false
flush_unblamed m e = first_unblamed is_flush_fault e (flush_refusals m) (refl, tt)

pub reply_unblamed : (m : Memory) (op : ℕ) (body : List ℕ) (e : ReplyError)
    → first_refusal (reply_refusals m op body) ≡ Some e → is_reply_fault e ≡ false
reply_unblamed m op body e = first_unblamed is_reply_fault e (reply_refusals m op body) (refl, (refl, (refl, tt)))

pub block_unblamed : (m : Memory) (kind : ℕ) (body : List ℕ) (e : BlockError)
    → first_refusal (block_refusals m kind body) ≡ Some e → is_block_fault e ≡ false
block_unblamed m kind body e = first_unblamed is_block_fault e (block_refusals m kind body) (refl, (refl, (refl, tt)))

pub prepare_unblamed : (m : Memory) (op : ℕ) (e : PrepareError) → first_refusal (prepare_refusals m op) ≡ Some e → is_prepare_fault e ≡ false
prepare_unblamed m op e = first_unblamed is_prepare_fault e (prepare_refusals m op) (refl, tt)

pub lookup_unblamed : (m : Memory) (client : ℕ) (e : LookupError) → first_refusal (lookup_refusals m client) ≡ Some e → is_lookup_fault e ≡ false
lookup_unblamed m client e = first_unblamed is_lookup_fault e (lookup_refusals m client) (refl, (refl, tt))
