-- Of each view that the calls of a table's session leave all sessions are the client's.
use Rattle.std.{proofs.Common.{◌≡◌, inl, inr, ℕ, zero, suc, ◌==◌, Bool, true, false, if◌then◌else◌, List, [], ◌∷◌, ◌++◌, drop, Option, Some, None, refl, sym, ◌∙◌, subst, eqb-true}, specs.List.{slice_get}}
use Rattle.df_base.{specs.{Image.{Image}, Log.{IsLeft, Log, Sync}, Moments.{EachMoment, Extends}}, proofs.Laws.{one_some, weaker}}
use Rattle.{df_disk.specs.Told.{Told, did}, df_table.specs.{Keeping.{AreClients, IsClients}, Policy.{the_client}}}
use Rattle.df_theory.specs.{Device.{NoChanceOf}, Holds.{Held, Stands}, Next.{IsSameBare}, Sessions.{noted, session_of_header, sessions_after}, Units.{Header, Message, Parts, Session}, View.{View}}
use Rattle.df_model.{specs.{After.{with_verdict}, Change.{Appends, Begins, Change, Checks, Ends, LetsGo, Lives, One, Replies, Staged, Stages, Stays, TourEnds, Writes}, Commands.{Command, Given, supplied_sum, supplied_verdict}, Making.{prepare_of}, Memory.{memory_of}, Work.{Running, Work, kept}, declared.answers.Verdict.{Verdict}, declared.answers.Verdict.TheVariants.{Failing, Sound}}, proofs.Laws.{one_thing_law}}
use Rattle.df_session.specs.{Begun.{begun_work}, Below.{DataFile, shape, spelling}, Keeping.{KeepsFile}, Links.{list_of}, Serving.{Whole, format, next}, Session.{Act, Exchange, HasView, HoldsSome, IsMidway, acts_in}}

-- ---- sessions and prepares

-- all are the client's
abbrev pub AllOwn : List Session → Type 0
AllOwn [] = Unit {0}
AllOwn (s ∷ ss) = (s.client ≡ the_client) × AllOwn ss

abbrev pub AllFrom : List Message → Type 0
AllFrom [] = Unit {0}
AllFrom (p ∷ ps) = (p.header.client ≡ the_client) × AllFrom ps

pub own_at : (ss : List Session) (k : ℕ) (s : Session) → AllOwn ss → slice_get ss k ≡ Some s → s.client ≡ the_client
own_at [] k s own at = absurd (let none : None ≡ Some s = at in cc)
own_at (x ∷ ss) zero s own at = let same : x ≡ s = cc in subst (λ (y : Session). y.client ≡ the_client) same own.0
own_at (x ∷ ss) (suc k) s own at = own_at ss k s own.1 at

noted_own : (h : Header) (ss : List Session) → h.client ≡ the_client → AllOwn ss → AllOwn (noted h ss)
noted_own h [] mine own = (mine, tt)
noted_own h (s ∷ ss) mine own = go (noted_own h ss mine own.1) (s.client == h.client)
  where
    go : AllOwn (noted h ss) → (b : Bool) → AllOwn (if b then session_of_header h ∷ ss else s ∷ noted h ss)
    go rest true = (mine, own.1)
    go rest false = (own.0, rest)

pub after_own : (ps : List Message) (ss : List Session) → AllOwn ss → AllFrom ps → AllOwn (sessions_after ss ps)
after_own [] ss own from = own
after_own (p ∷ ps) ss own from = after_own ps (noted p.header ss) (noted_own p.header ss from.0 own) from.1

-- and where all are that come of it, all were
noted_mine : (h : Header) (ss : List Session) → AllOwn (noted h ss) → (h.client ≡ the_client) × AllOwn ss
noted_mine h [] own = (own.0, tt)
noted_mine h (s ∷ ss) own = go (λ all. noted_mine h ss all) (s.client == h.client) refl own
  where
    go : (AllOwn (noted h ss) → (h.client ≡ the_client) × AllOwn ss) → (b : Bool) → (s.client == h.client) ≡ b
        → AllOwn (if b then session_of_header h ∷ ss else s ∷ noted h ss) → (h.client ≡ the_client) × AllOwn (s ∷ ss)
    go more true same all = (all.0, (eqb-true s.client h.client same ∙ all.0, all.1))
    go more false other all = let rest = more all.1 in (rest.0, (all.0, rest.1))

pub after_mine : (ps : List Message) (ss : List Session) → AllOwn (sessions_after ss ps) → AllOwn ss × AllFrom ps
after_mine [] ss own = (own, tt)
after_mine (p ∷ ps) ss own = let rest = after_mine ps (noted p.header ss) own in let one = noted_mine p.header ss rest.0 in
    (one.1, (one.0, rest.1))

-- all are, where each is
pub each_own : (ss : List Session) → ((k : ℕ) (s : Session) → slice_get ss k ≡ Some s → s.client ≡ the_client) → AllOwn ss
each_own [] each = tt
each_own (s ∷ ss) each = (each 0 s refl, each_own ss (λ k x at. each (suc k) x at))

more_from : (ps : List Message) (p : Message) → AllFrom ps → p.header.client ≡ the_client → AllFrom (ps ++ p ∷ [])
more_from [] p from one = (one, tt)
more_from (q ∷ ps) p from one = (from.0, more_from ps p from.1 one)

drop_from : (n : ℕ) (ps : List Message) → AllFrom ps → AllFrom (drop n ps)
drop_from zero [] from = tt
drop_from (suc n) [] from = tt
drop_from zero (p ∷ ps) from = from
drop_from (suc n) (p ∷ ps) from = drop_from n ps from.1

-- ---- views and states

pub record OwnView (v : View) : Type 0 where
  pub parts : AllOwn v.checkpoint.parts.sessions
  pub tail : AllFrom v.tail

pub record OwnWork (w : Work) : Type 0 where
  pub view : OwnView w.view
  pub captured : (r : Running) → w.running ≡ Some r → AllOwn r.parts.sessions

pub own_bare : (v u : View) → IsSameBare v u → OwnView v → OwnView u
own_bare v u same own = record { parts = rw (sym same.parts) at own.parts; tail = subst AllFrom (sym same.tail) own.tail }

-- ---- a command leads from one to another

module _ (file : DataFile) where
  unsome : (r q : Running) → Some r ≡ Some q → r ≡ q
  unsome r q is = cc

  checked_own : (w : Work) (a : ℕ) (v : Verdict) → OwnWork w → OwnWork (with_verdict w a v)
  checked_own w a Sound own = record { view = own.view; captured = own.captured }
  checked_own w a (Failing class) own = record { view = own.view; captured = own.captured }

  changed_own : (w : Work) (given : Given) (c : Command) (u : Work)
      → IsClients c → OwnWork w → Change (shape file) (spelling file) w given c u → OwnWork u
  changed_own w given c u has own (Stays _ idle) = own
  changed_own w given c u has own (Appends _ ps (One client request body none staged)) =
      record { view = record { parts = own.view.parts; tail = more_from w.view.tail (prepare_of (memory_of (shape file) (spelling file) w) (supplied_sum given) client request body) own.view.tail has }; captured = own.captured }
  changed_own w given c u has own (Replies op body none) =
      record { view = record { parts = own.view.parts; tail = own.view.tail }; captured = own.captured }
  changed_own w given c u has own (Lives kind body none) = record { view = own.view; captured = own.captured }
  changed_own w given c u has own (LetsGo address none) = record { view = own.view; captured = own.captured }
  changed_own w given c u has own (Begins root none) =
      record { view = own.view; captured = λ r is. rw (← (unsome _ r is)) (after_own w.view.tail w.view.checkpoint.parts.sessions own.view.parts own.view.tail) }
  changed_own w given c u has own (Writes r a more running left) =
      record { view = own.view; captured = λ q at. rw (← (unsome _ q at)) (own.captured r running) }
  changed_own w given c u has own (Ends r running left) =
      record { view = record { parts = own.captured r running; tail = drop_from _ w.view.tail own.view.tail }; captured = λ q at. absurd (let none : None ≡ Some q = at in cc) }
  changed_own w given c u has own (Appends _ ps (Staged none)) = absurd has
  changed_own w given c u has own (Stages client request body none) = absurd has
  changed_own w given c u has own (Checks x more list) = checked_own w x.0 (supplied_verdict given) own
  changed_own w given c u has own (TourEnds none) = record { view = own.view; captured = own.captured }

  next_own : (w : Work) (given : Given) (c : Command) → IsClients c → OwnWork w → OwnWork (next file w given c).0
  next_own w given c has own = changed_own w given c (next file w given c).0 has own (one_thing_law (shape file) (spelling file) w given c)

  -- ---- what is left

  -- the image has a view with each block that it references, whose sessions are the client's
  pub record Seen (image : Image) : Type 0 where
    pub view : View
    pub held : Held (shape file) ((format file).unit_at image) view
    pub stands : Stands ((format file).unit_at image) view
    pub own : OwnView view

  abbrev pub EachSeen : Log → Type 0
  EachSeen log = (image : Image) → IsLeft log image → NoChanceOf (format file) log image → Seen image

  view_seen : (w : Work) (image : Image) → OwnWork w → HasView file Whole w image → Seen image
  view_seen w image own has = record { view = has.0; held = has.2.0; stands = has.2.1; own = own_bare (kept w) has.0 has.1 own.view }

  -- after some of these acts
  pub some_seen : (acts : List Act) (w : Work) (image : Image) → AreClients acts → OwnWork w → HoldsSome file Whole w acts image → Seen image
  some_seen [] w image have own has = view_seen w image own has
  some_seen (a ∷ acts) w image have own (inl has) = view_seen w image own has
  some_seen (a ∷ acts) w image have own (inr more) =
      some_seen acts (next file w a.given a.command).0 image have.1 (next_own w a.given a.command have.0 own) more

-- ---- what is kept of calls

-- a file as an open begins it
pub own_begun : (file : DataFile) (image : Image) (v : View) → OwnView v → OwnWork (begun_work file image v)
own_begun file image v own = record { view = record { parts = own.parts; tail = own.tail }; captured = λ r none. absurd (cc (none)) }

module _ (file : DataFile) (w : Work)
    (b : Told) (xs : List Exchange) (failed : Option Act) (end : Told) (keeps : KeepsFile file Whole w b xs failed (Some end)) where
  same_end : keeps.after ≡ end
  same_end = one_some (Some end) keeps.after end keeps.is refl

  pub kept_barrier : Extends end.log (did Sync b).log
  kept_barrier = subst (λ (x : Told). Extends x.log (did Sync b).log) same_end keeps.barrier

  -- at each moment, where they are the client's
  pub kept_seen : OwnWork w → AreClients (acts_in xs ++ list_of failed) → EachMoment (did Sync b).log end.log (EachSeen file)
  kept_seen own clients =
      weaker (did Sync b).log end.log (IsMidway file Whole w (acts_in xs ++ list_of failed)) (EachSeen file) (λ log mid image left no.
      some_seen file (acts_in xs ++ list_of failed) w image clients own (mid.left image left no)) (rw same_end at keeps.moments)
