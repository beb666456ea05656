-- The commands of a line, and of an opening: what was asked for of them, and which puts and drops are among them.
use Rattle.std.{proofs.{Common.{◌≡◌, ◌⊎◌, inl, inr, ℕ, zero, suc, Bool, true, false, if◌then◌else◌, List, [], ◌∷◌, ◌++◌, map, Option, Some, None, Ok, refl, sym, subst}, lemmas.List.Elements.{All-head, All-tail}}, specs.Prelude.{All, replicate}}
use Rattle.{df_disk.specs.Told.{Told}, df_layout.specs.declared.layout.Layout.{Layout}}
use Rattle.df_model.specs.{Commands.{Advance, Answer, Append, Begin, Command, Flush, ReadBlock, ReadPrepare, ReadReply, Recent, Release, Reply, Scrub, Stage, ToAppend, WriteBlock}, Memory.{Memory}}
use Rattle.df_rows.specs.{declared.command.Command.{Command as Change}, declared.refusal.Refusal.{Refusal}, Answers.{refusal_of}, Commands.{IsCommand, Map, body_of}, Grammar.{Count, Drop, Get, Put, Said}, Lines.{accepted, asked_by_line, line_in, unless_refused}, Tables.{CanApply, Table}}
use Rattle.df_rows.specs.declared.command.Command.TheVariants as commands
use Rattle.df_session.specs.{Below.{State as Replica}, Links.{list_of}, Session.{Act, Exchange, acts_in, command_in}}
use Rattle.df_table.{specs.{declared.ending.Ending.{Ending}, Keeping.{AreChanges, AreClients, Changes, IsClients, IsPending}, Policy.{block_reads, checkpoint, line_commands, opening, prepare_reads, releases, replies, request, room_for, the_client, writes}, Turns.{AreAccepted, AreFit, EndIn, WasAccepted}}, proofs.{Executed.{put_may}, Walked.{ArePlain, Asks, IsNext}}}

-- ---- what was made of commands is what they ask for

asks_part : (cs : List Command) (xs : List Exchange) (failed : Option Act) (rest : List Command)
    → map command_in (acts_in xs ++ list_of failed) ++ rest ≡ cs → AreAccepted xs failed → Asks (Unit {0}) failed cs xs
asks_part [] [] None rest is accepted = refl
asks_part (c ∷ cs) [] None rest is accepted = (tt, tt)
asks_part [] [] (Some a) rest is accepted = absurd (cc (is))
asks_part (c ∷ cs) [] (Some a) rest is accepted = (tt, (let same : a.command ≡ c = cc in same))
asks_part [] (x ∷ xs) failed rest is accepted = absurd (cc (is))
asks_part (c ∷ cs) (x ∷ xs) failed rest is accepted = (
  (let same : x.act.command ≡ c = cc in same),
  elim accepted.0 [
    | inl here ↦ inl here
    | inr last ↦ inr (tt, last.0, last.1)
  ],
  asks_part cs xs failed rest (let same : map command_in (acts_in xs ++ list_of failed) ++ rest ≡ cs = cc in same) accepted.1,
)

pub asks_ends : (cs : List Command) (s t : Replica) (old new : Option Told) (ending : Ending)
    → (e : EndIn cs s t old new ending) → Asks (Unit {0}) e.failed cs e.exchanges
asks_ends cs s t old new ending e = asks_part cs e.exchanges e.failed e.rest e.are e.accepted

pub asks_made : (cs : List Command) (xs : List Exchange) → map command_in (acts_in xs) ≡ cs → All WasAccepted xs → Asks ⊥ None cs xs
asks_made [] [] is accepted = refl
asks_made (c ∷ cs) [] is accepted = absurd (cc (is))
asks_made [] (x ∷ xs) is accepted = absurd (cc (is))
asks_made (c ∷ cs) (x ∷ xs) is accepted = (
  (let same : x.act.command ≡ c = cc in same),
  inl (All-head WasAccepted x xs accepted),
  asks_made cs xs (let same : map command_in (acts_in xs) ≡ cs = cc in same) (All-tail WasAccepted x xs accepted),
)

-- ---- puts and drops

-- a table's program asks for it: an append is the client's, and its body is a command's
abbrev pub HasChange : Command → Type 0
HasChange (Append client request body) = (c : Change) × IsCommand c × (body ≡ body_of c) × (client ≡ the_client)
HasChange (Stage client request body) = ⊥
HasChange Flush = ⊥
HasChange (ReadReply client) = ⊥
HasChange Scrub = ⊥
HasChange Recent = ⊥
HasChange command = Unit {0}

abbrev pub HaveChanges : List Command → Type 0
HaveChanges [] = Unit {0}
HaveChanges (c ∷ cs) = HasChange c × HaveChanges cs

abbrev pub CallsHave : List Exchange → Type 0
CallsHave [] = Unit {0}
CallsHave (x ∷ xs) = HasChange x.act.command × CallsHave xs

abbrev pub FailHas : Option Act → Type 0
FailHas None = Unit {0}
FailHas (Some a) = HasChange a.command

-- so it is one of the one client
has_clients : (c : Command) → HasChange c → IsClients c
has_clients (Append client request body) has = has.3
has_clients (Stage client request body) has = has
has_clients Flush has = has
has_clients c has = tt

pub clients_in : (xs : List Exchange) (failed : Option Act) → CallsHave xs → FailHas failed → AreClients (acts_in xs ++ list_of failed)
clients_in [] None have fails = tt
clients_in [] (Some a) have fails = (has_clients a.command fails, tt)
clients_in (x ∷ xs) failed have fails = (has_clients x.act.command have.0, clients_in xs failed have.1 fails)

next_has : (c : Command) (f : Option Act) → HasChange c → IsNext c f → FailHas f
next_has c None has is = tt
next_has c (Some a) has is = subst HasChange (sym is) has

pub asked_have : (part : Type 0) (failed : Option Act) (cs : List Command) (xs : List Exchange)
    → Asks part failed cs xs → HaveChanges cs → CallsHave xs × FailHas failed
asked_have part failed [] [] asks have = (tt, subst FailHas (sym asks) tt)
asked_have part failed (c ∷ cs) [] asks have = (tt, next_has c failed have.0 asks.1)
asked_have part failed [] (x ∷ xs) asks have = absurd asks
asked_have part failed (c ∷ cs) (x ∷ xs) asks have = let rest = asked_have part failed cs xs asks.2 have.1 in
    ((subst HasChange (sym asks.0) have.0, rest.0), rest.1)

pub calls_have : (xs ys : List Exchange) → CallsHave xs → CallsHave ys → CallsHave (xs ++ ys)
calls_have [] ys have rest = rest
calls_have (x ∷ xs) ys have rest = (have.0, calls_have xs ys have.1 rest)

appended_change : (client request : ℕ) (body : List ℕ) (x : Answer)
    → HasChange (Append client request body) → (some : List Change) × Changes (Append client request body) x some
appended_change client request body (ToAppend (Ok done)) has = (has.0 ∷ [], (has.0, has.1, has.2, refl))
appended_change client request body x has = ([], refl)

one_change : (c : Command) (x : Answer) → HasChange c → (some : List Change) × Changes c x some
one_change (Append client request body) x has = appended_change client request body x has
one_change c x has = ([], refl)

pub changes_there : (xs : List Exchange) → CallsHave xs → (changes : List Change) × AreChanges xs changes
changes_there [] have = ([], refl)
changes_there (x ∷ xs) have = let one = one_change x.act.command x.answer have.0 in let rest = changes_there xs have.1 in
    (one.0 ++ rest.0, (one.0, rest.0, one.1, rest.1, refl))

pub pending_there : (failed : Option Act) → FailHas failed → (pending : List Change) × IsPending failed pending
pending_there None has = ([], refl)
pending_there (Some a) has = one_change a.command (ToAppend (Ok (0, 0))) has

-- ---- those of a session

have_both : (cs ds : List Command) → HaveChanges cs → HaveChanges ds → HaveChanges (cs ++ ds)
have_both [] ds one two = two
have_both (c ∷ cs) ds one two = (one.0, have_both cs ds one.1 two)

have_map : {A : Type 0} (f : A → Command) → ((x : A) → HasChange (f x)) → (xs : List A) → HaveChanges (map f xs)
have_map f each [] = tt
have_map f each (x ∷ xs) = (each x, have_map f each xs)

plain_both : (cs ds : List Command) → ArePlain cs → ArePlain ds → ArePlain (cs ++ ds)
plain_both [] ds one two = two
plain_both (c ∷ cs) ds one two = (one.0, plain_both cs ds one.1 two)

plain_map : {A : Type 0} (f : A → Command) → ((x : A) → ArePlain (f x ∷ [])) → (xs : List A) → ArePlain (map f xs)
plain_map f each [] = tt
plain_map f each (x ∷ xs) = ((each x).0, plain_map f each xs)

pub opening_plain : (m : Memory) → ArePlain (opening m)
opening_plain m = plain_both (block_reads m) (prepare_reads m ++ replies m) (plain_map (λ x. ReadBlock x.0) (λ x. (tt, tt)) _)
    (plain_both (prepare_reads m) (replies m) (plain_map ReadPrepare (λ op. (tt, tt)) _) (plain_map (λ op. Reply op []) (λ op. (tt, tt)) _))

pub opening_has : (m : Memory) → HaveChanges (opening m)
opening_has m = have_both (block_reads m) (prepare_reads m ++ replies m) (have_map (λ x. ReadBlock x.0) (λ x. tt) _)
    (have_both (prepare_reads m) (replies m) (have_map ReadPrepare (λ op. tt) _) (have_map (λ op. Reply op []) (λ op. tt) _))

have_steps : (n : ℕ) → HaveChanges (replicate n Advance)
have_steps zero = tt
have_steps (suc n) = (tt, have_steps n)

room_has : (layout : Layout) (m : Memory) (rows : Map) (steps : ℕ) (b : Bool) → HaveChanges (if b then checkpoint layout m rows steps else [])
room_has layout m rows steps false = tt
room_has layout m rows steps true =
    have_both (releases m) (writes layout rows ++ (Begin [] ∷ replicate steps Advance)) (have_map (λ x. Release x.0) (λ x. tt) _)
    (have_both (writes layout rows) (Begin [] ∷ replicate steps Advance) (have_map (WriteBlock 1) (λ x. tt) _) (tt, have_steps steps))

pub line_has : (layout : Layout) (m : Memory) (rows : Map) (steps : ℕ) (cs : List Change)
    → AreFit cs → HaveChanges (line_commands layout m rows steps cs)
line_has layout m rows steps [] fit = tt
line_has layout m rows steps (c ∷ more) fit =
    have_both (room_for layout m rows steps) (request m c) (room_has layout m rows steps _) ((c, fit.0, refl, refl), (tt, tt))

-- ---- what a line asks for

-- a line asks for one command at most, for which there is room
abbrev pub AsksOne : Table → List Change → Type 0
AsksOne t cs = (cs ≡ []) ⊎ ((c : Change) × (cs ≡ c ∷ []) × CanApply t c)

none_or : (o : Option Refusal) → unless_refused o [] ≡ []
none_or None = refl
none_or (Some refusal) = refl

pub one_asked : (t : Table) (said : Said) → AsksOne t (accepted t said)
one_asked t (Put key value) = go (refusal_of t (line_in (Put key value))) refl
  where
    go : (o : Option Refusal) → refusal_of t (line_in (Put key value)) ≡ o → AsksOne t (unless_refused o (asked_by_line (Put key value)))
    go None fine = inr (commands.Put (key, value), refl, (put_may t key _ fine).1)
    go (Some refusal) is = inl refl
one_asked t (Drop key) = go (refusal_of t (line_in (Drop key)))
  where
    go : (o : Option Refusal) → AsksOne t (unless_refused o (asked_by_line (Drop key)))
    go None = inr (commands.Drop key, refl, tt)
    go (Some refusal) = inl refl
one_asked t (Get key) = inl (none_or (refusal_of t (line_in (Get key))))
one_asked t Count = inl refl
