use Rattle.std.proofs.{Common.{◌≡◌, Option, ap, ◌∙◌, arith, ◌-◌, ◌+◌, ◌++◌, ℕ, List, take, drop, length, length-drop}, lemmas.List.{take_all}}
use Rattle.df_trailer.{specs.{declared.fault.Failing.{Failing}, Reading.{IsRestTaken}, Text.{answer, refusal_in}}, proofs.Fed.{IsFed, fails_as_read, read_more}}
use Rattle.df_trailer.proofs.reader.Reader.feed.Goals as goal

fed : (c : goal.After-refused) → IsFed c.args.self.now c.take_rest.new.self c.args.piece.now c.take-head.result
fed c = let n : ℕ = c.take-head.result in let piece : List ℕ = c.args.piece.now in let m : ℕ = length piece - n in
    let left : length (drop n piece) ≡ m = length-drop n piece in
    let all : take m (drop n piece) ≡ drop n piece = take_all m (drop n piece) (omega arith) in let r = c.take_rest.ensures.rest in
    let rest : IsRestTaken c.args.self.now c.take_rest.new.self (take m (drop n piece)) = assumption in record {
      within = c.take-head.ensures.within;
      head = ap (λ f. f.head.items) c.take_rest.ensures.front ∙ c.take-head.ensures.bytes;
      fits = λ was. rw c.take_rest.ensures.front (c.take-head.ensures.fits was);
      stays = c.take-head.ensures.stays;
      whole = λ less. rw c.take_rest.ensures.front (c.take-head.ensures.whole less);
      size = c.take_rest.ensures.size ∙ ap (λ (k : ℕ). c.args.self.now.behind + k) (ap (λ (xs : List ℕ). length xs) all ∙ left);
      rest = rw all at rest;
      layout = c.take_rest.ensures.layout;
      op = c.take_rest.ensures.op;
    }

pub returns-clause-kept : goal.returns-clause-kept
returns-clause-kept c =
    λ layout op text read. read_more layout op text c.args.self.now c.take_rest.new.self c.args.piece.now c.take-head.result (fed c) read

pub returns-clause-refusal : goal.returns-clause-refusal
returns-clause-refusal c = λ layout op text read. c.refused.ensures ∙ ap (λ (o : Option Failing). answer (refusal_in o))
    (fails_as_read layout op (text ++ c.args.piece.now) c.take_rest.new.self (returns-clause-kept c layout op text read))
