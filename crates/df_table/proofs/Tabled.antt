-- Of all calls of a session the table is kept: of those of its opening, of each line's, and of those of the line within which it ended.
use Rattle.std.proofs.Common.{◌≡◌, inl, inr, ℕ, List, [], ◌∷◌, ◌++◌, append-nil, append_assoc, Option, Some, None, refl, sym, ◌∙◌, ap, subst}
use Rattle.{df_disk.specs.Told.{Told}, df_layout.specs.declared.layout.Layout.{Layout}}
use Rattle.df_model.specs.{Commands.{Command}, Memory.{Memory, memory_of}, Work.{Work}}
use Rattle.df_rows.specs.{declared.command.Command.{Command as Change}, Lines.{accepted, table_after}, Tables.{Table, with_commands}}
use Rattle.df_session.specs.{Below.{DataFile, State as Replica, memory, shape, spelling}, Links.{AreCalls, More, NoCalls}, Serving.{Firm, Keeps, next}, Session.{Act, Exchange, acts_in, work_after}}
use Rattle.df_table.{specs.{Policy.{line_commands, opening}, Session.{Halt, HaltsIn, halted_exchanges, halted_failed}, Turns.{AreFit, AreTurns, NextTurn, NoTurns, TableTurn, commands_of, table_exchanges}}, proofs.{Asking.{AsksOne, CallsHave, FailHas, asked_have, asks_ends, asks_made, calls_have, line_has, one_asked, opening_plain}, Lasting.{At, FailKept}, Walked.{Asks, KeptAll, walk_change, walk_plain}}}

-- ---- a replica's own state

-- after calls it stands for the state that their acts lead to
pub acts_stand : (file : DataFile) (xs : List Exchange) (s t : Replica) (old new : Option Told) → AreCalls s old xs t new
    → (w : Work) → s.file ≡ file → Keeps Firm s w None → (t.file ≡ file) × Keeps Firm t (work_after file w (acts_in xs)) None
acts_stand file [] s t old new NoCalls w same keeps = (same, keeps)
acts_stand file (x ∷ xs) s t old new (More u mid c rest) w same keeps = acts_stand
    file xs u t mid new rest (next file w x.act.given x.act.command).0 (c.call.file ∙ same) (rw same at (c.call.answers Firm w keeps).1)

pub memory_there : (file : DataFile) (s : Replica) (w : Work)
    → s.file ≡ file → Keeps Firm s w None → memory s ≡ memory_of (shape file) (spelling file) w
memory_there file s w same keeps = subst (λ (f : DataFile). memory s ≡ memory_of (shape f) (spelling f) w) same keeps.1

-- ---- walks

module _ (file : DataFile) (failed : Option Act) (u : Replica) (new : Option Told) where
  -- what is done after a list of commands
  module _ (part : Type 0) (fl : Option Act) (more : List Exchange) (end : Work)
      (stop : part → (s : Replica) (old : Option Told) (w : Work) (n : Told) (t : Table)
      → At file s w n t → FailKept file fl w n t → KeptAll file failed u new s old w n t more) where
    abbrev On : (Work → Told → Table → Type 0) → List Command → Type 0
    On P cs = (s : Replica) (old : Option Told) (w : Work) (n : Told) (t : Table) (xs : List Exchange)
        → At file s w n t → P w n t → Asks part fl cs xs → work_after file w (acts_in xs) ≡ end
        → KeptAll file failed u new s old w n t (xs ++ more)

    walk_line : (t0 : Table) (m : Memory) (steps : ℕ) (cs : List Change) → AsksOne t0 cs → AreFit cs → On (λ w n t. t ≡ with_commands
        cs t0) [] → On (λ w n t. (t ≡ t0) × (m ≡ memory_of (shape file) (spelling file) w)) (line_commands file.layout m t0.rows steps cs)
    walk_line t0 m steps cs (inl none) fit k = subst (λ (l : List Change).
        On (λ w n t. (t ≡ t0) × (m ≡ memory_of (shape file) (spelling file) w)) (line_commands file.layout m t0.rows steps l)) (sym none)
        (λ s old w n t xs at so asks ends. k s old w n t xs at (so.0 ∙ sym (ap (λ (l : List Change). with_commands l t0) none)) asks ends)
    walk_line t0 m steps cs (inr (c, one, can)) fit k = subst (λ (l : List Change).
        On (λ w n t. (t ≡ t0) × (m ≡ memory_of (shape file) (spelling file) w)) (line_commands file.layout m t0.rows steps l)) (sym one)
        (walk_change file failed u new part fl more end stop t0 c (subst AreFit one fit).0 can m steps
        (λ s old w n t xs at so asks ends. k s old w n t xs at (so ∙ sym (ap (λ (l : List Change). with_commands l t0) one)) asks ends))

    -- none is left
    behind_all : (P : Work → Told → Table → Type 0) → ((s : Replica) (old : Option Told) (w : Work) (n : Told) (t : Table)
        → At file s w n t → P w n t → fl ≡ None → w ≡ end → KeptAll file failed u new s old w n t more) → On P []
    behind_all P k s old w n t [] at so asks ends = k s old w n t at so asks ends
    behind_all P k s old w n t (x ∷ xs) at so asks ends = absurd asks

  -- ---- the end

  none_fails : (w : Work) (n : Told) (t : Table) (f : Option Act) → f ≡ None → FailKept file f w n t
  none_fails w n t f none = subst (λ (g : Option Act). FailKept file g w n t) (sym none) tt

  -- the first of these commands, to the end
  module _ (s : Replica) (old : Option Told) (w : Work) (n : Told) (t : Table) (at : At file s w n t) (xs : List Exchange) where
    abbrev end : Work
    end = work_after file w (acts_in xs)

    to_end : KeptAll file failed u new s old w n t (xs ++ []) → KeptAll file failed u new s old w n t xs
    to_end kept_all = subst (KeptAll file failed u new s old w n t) (append-nil xs) kept_all

    stop_last : Unit {0} → (s : Replica) (old : Option Told) (w : Work) (n : Told) (t : Table)
        → At file s w n t → FailKept file failed w n t → KeptAll file failed u new s old w n t []
    stop_last is s old w n t at fails calls = fails

    at_last : (P : Work → Told → Table → Type 0) → (s : Replica) (old : Option Told) (w : Work) (n : Told) (t : Table)
        → At file s w n t → P w n t → failed ≡ None → w ≡ end → KeptAll file failed u new s old w n t []
    at_last P s old w n t at so none same calls = none_fails w n t failed none

    pub opening_to_end : (m : Memory) → Asks (Unit {0}) failed (opening m) xs → KeptAll file failed u new s old w n t xs
    opening_to_end m asks = to_end (walk_plain file failed u new (Unit {0}) failed [] end stop_last t (opening m) (opening_plain m)
        (behind_all (Unit {0}) failed [] end stop_last (λ v o z. z ≡ t) (at_last (λ v o z. z ≡ t))) s old w n t xs at refl asks refl)

    pub line_to_end : (m : Memory) (steps : ℕ) (cs : List Change) → AsksOne t cs → AreFit cs → m ≡ memory_of (shape file) (spelling file) w
        → Asks (Unit {0}) failed (line_commands file.layout m t.rows steps cs) xs → KeptAll file failed u new s old w n t xs
    line_to_end m steps cs one fit is asks = to_end
        (walk_line (Unit {0}) failed [] end stop_last t m steps cs one fit (behind_all (Unit {0}) failed [] end stop_last (λ v o z.
        z ≡ with_commands cs t) (at_last (λ v o z. z ≡ with_commands cs t))) s old w n t xs at (refl, is) asks refl)

  -- ---- commands that were all made, and what was done after them

  module _ (s : Replica) (old : Option Told) (w : Work) (n : Told) (t : Table) (at : At file s w n t) (xs more : List Exchange) where
    abbrev whole : Work
    whole = work_after file w (acts_in xs)

    -- so it goes on after them, with this table
    abbrev Then : Table → Type 0
    Then v = (s : Replica) (old : Option Told) (w : Work) (n : Told) (t : Table)
        → At file s w n t → t ≡ v → w ≡ whole → KeptAll file failed u new s old w n t more

    no_stop : ⊥ → (s : Replica) (old : Option Told) (w : Work) (n : Told) (t : Table)
        → At file s w n t → FailKept file None w n t → KeptAll file failed u new s old w n t more
    no_stop never = absurd never

    pub opening_then : (m : Memory) → Asks ⊥ None (opening m) xs → Then t → KeptAll file failed u new s old w n t (xs ++ more)
    opening_then m asks k = walk_plain file failed u new ⊥ None more whole no_stop t (opening m) (opening_plain m)
        (behind_all ⊥ None more whole no_stop (λ v o z. z ≡ t) (λ r one v o z here so none same. k r one v o z here so same))
        s old w n t xs at refl asks refl

    pub line_then : (m : Memory) (steps : ℕ) (cs : List Change) → AsksOne t cs → AreFit cs → m ≡ memory_of (shape file) (spelling file) w
        → Asks ⊥ None (line_commands file.layout m t.rows steps cs) xs → Then (with_commands cs t)
        → KeptAll file failed u new s old w n t (xs ++ more)
    line_then m steps cs one fit is asks k = walk_line ⊥ None more whole no_stop t m steps cs one fit
        (behind_all ⊥ None more whole no_stop (λ v o z.
        z ≡ with_commands cs t) (λ r one v o z here so none same. k r one v o z here so same)) s old w n t xs at (refl, is) asks refl

-- ---- the lines

-- those of the line within which it ended, if one did
halt_kept : (file : DataFile) (u : Replica) (new : Option Told) (layout : Layout) → file.layout ≡ layout → (r last : Replica)
    (told told' : Option Told) (table : Table) (halt : Option Halt) (halts : HaltsIn layout r told table halt last told') → r.file ≡ file
    → (s : Replica) (old : Option Told) (w : Work) (n : Told) (t : Table) → At file s w n t → t ≡ table → Keeps Firm r w None → KeptAll file
    (halted_failed layout r told table halt last told' halts) u new s old w n t (halted_exchanges layout r told table halt last told' halts)
halt_kept file u new layout own r last told told' table None halts same s old w n t at so stands = λ calls. tt
halt_kept file u new layout own r last told told' table (Some h) halts same s old w n t at so stands = let e = halts.1 in
    let cs = accepted table h.said in
    let asks : Asks (Unit {0}) e.failed (line_commands file.layout (memory r) t.rows halts.0 cs) e.exchanges =
    rw own (rw so (asks_ends (commands_of layout r table halts.0 h.said) r last told told' h.ending e)) in line_to_end file e.failed
    u new s old w n t at e.exchanges (memory r) halts.0 cs (rw so (one_asked table h.said)) halts.2 (memory_there file r w same stands) asks

-- those of all lines
pub lines_kept : (file : DataFile) (u : Replica) (new : Option Told) (layout : Layout) → file.layout ≡ layout → (turns : List TableTurn) (r q last : Replica) (told mid told' : Option Told) (table later : Table) (halt : Option Halt) → AreTurns layout r told table turns q mid later
    → (halts : HaltsIn layout q mid later halt last told') → r.file ≡ file
    → (s : Replica) (old : Option Told) (w : Work) (n : Told) (t : Table) → At file s w n t → t ≡ table → Keeps Firm r w None
    → KeptAll file (halted_failed layout q mid later halt last told' halts)
    u new s old w n t (table_exchanges turns ++ halted_exchanges layout q mid later halt last told' halts)
lines_kept file u new layout own [] r q last told mid told' table later halt NoTurns halts same s old w n t at so stands =
    halt_kept file u new layout own q last mid told' later halt halts same s old w n t at so stands
lines_kept file u new layout own (x ∷ turns) r
    q last told mid told' table later halt (NextTurn r' between steps are calls accepted_all fit rest) halts same s old w n t at so stands =
    let halted = halted_exchanges layout q mid later halt last told' halts in let cs = accepted table x.said in
    let asks : Asks ⊥ None (line_commands file.layout (memory r) t.rows steps cs) x.exchanges =
    rw own (rw so (asks_made (commands_of layout r table steps x.said) x.exchanges are accepted_all)) in
    let then = acts_stand file x.exchanges r r' told between calls w same stands in
    subst (KeptAll file (halted_failed layout q mid later halt last told' halts) u new s old w n t)
    (sym (append_assoc x.exchanges (table_exchanges turns) halted))
    (line_then file (halted_failed layout q mid later halt last told' halts) u new s old w n t at x.exchanges
    (table_exchanges turns ++ halted) (memory r) steps cs (rw so (one_asked table x.said)) fit (memory_there file r w same stands) asks
    (λ s' old' w' n' t' here more_so work. lines_kept file u new layout own turns r' q last between mid told' (table_after table x.said)
    later halt rest halts then.0 s' old' w' n' t' here (more_so ∙ ap (with_commands cs) so) (rw (sym work) at then.1)))

-- ---- which puts and drops are among them

halt_has : (layout : Layout) (r last : Replica) (told told' : Option Told) (table : Table) (halt : Option Halt) (halts : HaltsIn layout r told table halt last told') → CallsHave (halted_exchanges layout r told table halt last told' halts) × FailHas (halted_failed layout r told table halt last told' halts)
halt_has layout r last told told' table None halts = (tt, tt)
halt_has layout r last told told' table (Some h) halts = let e = halts.1 in
    asked_have (Unit {0}) e.failed (commands_of layout r table halts.0 h.said) e.exchanges (asks_ends (commands_of layout
    r table halts.0 h.said) r last told told' h.ending e) (line_has layout (memory r) table.rows halts.0 (accepted table h.said) halts.2)

turns_have : (layout : Layout) (turns : List TableTurn) (r q : Replica) (told mid : Option Told) (table later : Table)
    → AreTurns layout r told table turns q mid later → CallsHave (table_exchanges turns)
turns_have layout [] r q told mid table later are = tt
turns_have layout (x ∷ turns) r q told mid table later (NextTurn u between steps are calls accepted_all fit rest) =
    calls_have x.exchanges (table_exchanges turns)
    (asked_have ⊥ None (commands_of layout r table steps x.said) x.exchanges (asks_made (commands_of layout r table steps x.said)
    x.exchanges are accepted_all) (line_has layout (memory r) table.rows steps (accepted table x.said) fit)).0
    (turns_have layout turns u q between mid (table_after table x.said) later rest)

pub lines_have : (layout : Layout) (turns : List TableTurn) (r q last : Replica) (told mid told' : Option Told) (table later : Table)
    (halt : Option Halt) → AreTurns layout r told table turns q mid later → (halts : HaltsIn layout q mid later halt last told')
    → CallsHave (table_exchanges turns ++ halted_exchanges layout q mid later halt last told' halts)
    × FailHas (halted_failed layout q mid later halt last told' halts)
lines_have layout turns r q last told mid told' table later halt are halts = let ends = halt_has layout q last mid told' later halt halts in
    (calls_have (table_exchanges turns) (halted_exchanges layout q mid later halt last told' halts) (turns_have layout turns r q told mid table later are) ends.0, ends.1)
