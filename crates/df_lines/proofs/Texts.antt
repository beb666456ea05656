-- The next line of a text, from what a window holds of it.
use Rattle.std.{proofs.{Common.{◌≡◌, ◌≢◌, ℕ, ◌+◌, ◌-◌, ◌<◌, inl, inr, IsTrue, List, [], ◌++◌, length, take, drop, refl, sym, ap, subst, ◌∙◌, arith, length-append, length-drop}, lemmas.List.{length-take-le, append-nil, drop_all, take-append-le, drop-append-le}}, specs.Prelude.{Option, None, Some, Ok}}
use Rattle.df_base.specs.declared.Failed.{Failed}
use Rattle.df_lines.{specs.{declared.next.Next.{Next}, Kind.{Grammar}, Reads.{GivesNext, Takes, text_after}, Room.{Contents, ReaderParts, IsAtEnd, HasTextToCome}, Text.{line_of, after_line, unread}, Window.{is_feed, line_end, IsWholeLine, IsOverfull}}, proofs.Cutting.{position_past, position_within, position_le}}
use Rattle.df_lines.specs.declared.next.Next.TheVariants as nexts
use Rattle.df_lines.specs.Text as text

-- the text whose front is held
pub parts_of : (bytes all : List ℕ) (left : Option (List ℕ))
    → unread bytes left ≡ Some all → (rest : List ℕ) × (left ≡ Some rest) × (all ≡ bytes ++ rest)
parts_of bytes all None is = cc is
parts_of bytes all (Some rest) is = (rest, refl, let same : Some (bytes ++ rest) ≡ Some all = is in cc)

-- the first line of the text, where it is whole
pub record Front (window : Contents) (size taken : ℕ) (left : Option (List ℕ)) (all : List ℕ) : Type 0 where
  pub line : line_of all ≡ take size window.bytes
  pub rest : unread (drop taken window.bytes) left ≡ Some (after_line all)
  pub size_is : length (line_of all) ≡ size
  pub taken_is : text.taken all ≡ taken
  pub some : all ≢ []
  pub read : line_of window.bytes ≡ line_of all

not_none : (xs : List ℕ) → 0 < length xs → xs ≢ []
not_none xs some none = omega (arith, ap length none)

length_line : (bytes : List ℕ) → length (line_of bytes) ≡ line_end bytes
length_line bytes = length-take-le (line_end bytes) bytes (position_le is_feed bytes)

-- a line that ends before a byte 10
fed : (window : Contents) (size : ℕ) (rest : List ℕ)
    → size ≡ line_end window.bytes → size < length window.bytes → Front window size (size + 1) (Some rest) (window.bytes ++ rest)
fed window size rest is within = let b = window.bytes in
    let at : line_end (b ++ rest) ≡ size = position_within is_feed b rest (omega arith) ∙ sym is in
    let line : line_of (b ++ rest) ≡ take size b = ap (λ (n : ℕ). take n (b ++ rest)) at ∙ take-append-le size b rest (omega arith) in
    let after : after_line (b ++ rest) ≡ drop (size + 1) b ++ rest =
    ap (λ (n : ℕ). drop (n + 1) (b ++ rest)) at ∙ drop-append-le (size + 1) b rest (omega arith) in
    let after_size = ap length after ∙ length-append (drop (size + 1) b) rest in record {
      line = line;
      rest = ap Some (sym after);
      size_is = length_line (b ++ rest) ∙ at;
      taken_is = omega (arith, after_size, length-drop (size + 1) b, length-append b rest);
      some = not_none (b ++ rest) (omega (arith, length-append b rest));
      read = ap (λ (n : ℕ). take n b) (sym is) ∙ sym line;
    }

-- a last line
last : (window : Contents) (size : ℕ)
    → size ≡ line_end window.bytes → size ≡ length window.bytes → 0 < size → Front window size size (Some []) (window.bytes ++ [])
last window size is all some = let b = window.bytes in let nil : b ++ [] ≡ b = append-nil b in
    let at : line_end (b ++ []) ≡ size = ap line_end nil ∙ sym is in
    let line : line_of (b ++ []) ≡ take size b = ap (λ (n : ℕ). take n (b ++ [])) at ∙ ap (λ (l : List ℕ). take size l) nil in
    let after : after_line (b ++ []) ≡ [] = drop_all (line_end (b ++ []) + 1) (b ++ []) (omega (arith, at, ap length nil)) in
    let held : drop size b ≡ [] = drop_all size b (omega arith) in record {
      line = line;
      rest = ap (λ (l : List ℕ). Some (l ++ [])) held ∙ ap Some (sym after);
      size_is = length_line (b ++ []) ∙ at;
      taken_is = omega (arith, ap length after, ap length nil);
      some = not_none (b ++ []) (omega (arith, ap length nil));
      read = ap (λ (n : ℕ). take n b) (sym is) ∙ sym line;
    }

front_line : (window : Contents) (size taken : ℕ) (left : Option (List ℕ)) (all : List ℕ) → IsWholeLine window size taken
    → unread window.bytes left ≡ Some all → (IsTrue window.ended → IsAtEnd left) → Front window size taken left all
front_line window size taken left all whole is at_end = let parts = parts_of window.bytes all left is in
    let FrontOf : ℕ → List ℕ → Type 0 = λ n l. Front window size n (Some l) (window.bytes ++ l) in
    let front : FrontOf taken parts.0 = elim whole.ends [
      | inl fed_line ↦ rw (sym fed_line.1) at (fed window size parts.0 whole.line fed_line.0)
      | inr last_line ↦ let none : parts.0 ≡ [] = subst IsAtEnd parts.1 (at_end last_line.0) in
          rw last_line.2 (subst (FrontOf size) (sym none) (last window size whole.line last_line.1 last_line.3))
    ] in let here : Front window size taken left (window.bytes ++ parts.0) = rw (sym parts.1) at front in
    subst (λ (l : List ℕ). Front window size taken left l) (sym parts.2) here

module _ {L : Type 0} (grammar : Grammar L) where
  gives_line : (old : ReaderParts) (window new : Contents) (size taken rest : ℕ) (left : Option (List ℕ)) (all body : List ℕ) (next : Next L) → old.reading.bound ≡ window.size - 1 → size < window.size → unread window.bytes left ≡ Some all → Front window size taken left all → Takes grammar window new old.reading.budget rest body size taken next → GivesNext grammar old (record { reading = record { held = new.bytes; bound = new.size - 1; budget = rest }; ended = new.ended; body = body }) all left next
  gives_line old window new size taken rest left all body (nexts.Line l) bound fits is front takes = record {
    line = record {
      within = record { line = omega (arith, front.size_is); all = omega (arith, front.taken_is, takes.0) };
      says = rw (sym front.line) at takes.4;
    };
    rest = ap (λ (b : List ℕ). unread b left) takes.2 ∙ front.rest;
    budget = omega (arith, front.taken_is, takes.1);
  }
  gives_line old window new size taken rest left all body nexts.Refused bound fits is front takes = record {
    refuses = record {
      some = front.some;
      none = λ said line. takes.2 said (omega (arith, front.taken_is, line.within.all)) (rw front.line at line.says);
    };
    rest = ap (λ (w : Contents). unread w.bytes left) takes.0 ∙ is;
    read = inl (ap (λ (w : Contents). line_of w.bytes) takes.0 ∙ front.read);
  }
  gives_line old window new size taken rest left all body nexts.End bound fits is front takes = absurd takes

  -- what is still unread after it
  tells_line : (bound : ℕ) (window new : Contents) (size taken budget rest : ℕ) (left : Option (List ℕ)) (all body : List ℕ) (next : Next L) → unread window.bytes left ≡ Some all → (IsTrue window.ended → IsAtEnd left) → Front window size taken left all → Takes grammar window new budget rest body size taken next → HasTextToCome (record { reading = record { held = new.bytes; bound = bound; budget = rest }; ended = new.ended; body = body }) left (text_after {E = Failed} (Ok next) all)
  tells_line bound window new size taken budget rest left all body (nexts.Line l) is at_end front takes = record {
    is = ap (λ (b : List ℕ). unread b left) takes.2 ∙ front.rest;
    ended = λ now. at_end (sym takes.3 ∙ now);
  }
  tells_line bound window new size taken budget rest left all body nexts.Refused is at_end front takes = record {
    is = ap (λ (w : Contents). unread w.bytes left) takes.0 ∙ is;
    ended = λ now. at_end (sym (ap (λ (w : Contents). w.ended) takes.0) ∙ now);
  }
  tells_line bound window new size taken budget rest left all body nexts.End is at_end front takes = absurd takes

  -- what a reader gives of a text whose next line is whole in the window, and what is still unread then
  pub next_line : (old : ReaderParts) (window new : Contents) (size taken rest : ℕ) (before left : Option (List ℕ)) (all body : List ℕ) (next : Next L) → old.reading.bound ≡ window.size - 1 → IsWholeLine window size taken → unread window.bytes left ≡ unread old.reading.held before → ((IsTrue old.ended → IsAtEnd before) → IsTrue window.ended → IsAtEnd left) → Takes grammar window new old.reading.budget rest body size taken next → HasTextToCome old before all
      → let room : ReaderParts = record { reading = record { held = new.bytes; bound = new.size - 1; budget = rest }; ended = new.ended; body = body } in GivesNext grammar old room all left next × HasTextToCome room left (text_after {E = Failed} (Ok next) all)
  next_line old window new size taken rest before left all body next bound whole same ended takes tells = let is = same ∙ tells.is in
      let at_end = ended tells.ended in let front = front_line window size taken left all whole is at_end in
      (gives_line old window new size taken rest left all body next bound whole.fits is front takes, tells_line (new.size - 1) window new size taken old.reading.budget rest left all body next is at_end front takes)

  pub gives_refusal : (old : ReaderParts) (window : Contents) (left : Option (List ℕ)) (all body : List ℕ) → old.reading.bound ≡ window.size - 1 → 0 < window.size → IsOverfull window → unread window.bytes left ≡ Some all → GivesNext grammar old (record { reading = record { held = window.bytes; bound = window.size - 1; budget = old.reading.budget }; ended = window.ended; body = body }) all left nexts.Refused
  gives_refusal old window left all body bound some over is = let b = window.bytes in let parts = parts_of b all left is in
      let at = position_past is_feed b parts.0 over.none in
      let size = ap (λ (l : List ℕ). length (line_of l)) parts.2 ∙ length_line (b ++ parts.0) in record {
        refuses = record {
          some = not_none all (omega (arith, ap length parts.2, length-append b parts.0, over.full));
          none = λ said line. omega (arith, size, at, line.within.line, over.full);
        };
        rest = is;
        read = inr (omega (arith, length_line b, over.none, over.full));
      }
