-- The client's next request is that of the first session.
use Rattle.std.{proofs.{Common.{◌≡◌, ◌≤◌, ◌+◌, ◌^◌, ℕ, List, [], ◌∷◌, map, Some, None, refl, sym, ◌∙◌, ap, subst}, lemmas.Option.{none-some}}, specs.List.{slice_get}}
use Rattle.df_sessions.specs.declared.session.Session as told
use Rattle.{df_sessions.specs.Requests.{session_of}, df_model.specs.{Memory.{Memory}, Refusals.{next_request, session_of_client}}}
use Rattle.{df_session.specs.Below.{State as Replica, memory}, df_layout.specs.declared.layout.Layout.{Layout}}
use Rattle.df_table.{specs.{Policy.{the_client}, Ready.{IsReadyReplica}}, proofs.Fine.{own_session}}

first_some : (ss : List told.Session) (x : told.Session) → slice_get ss 0 ≡ Some x → slice_get (map session_of ss) 0 ≡ Some (session_of x)
first_some [] x is = absurd (none-some x is)
first_some (y ∷ ss) x is = let same : Some y ≡ Some x = is in let one : y ≡ x = cc in ap (λ (z : told.Session). Some (session_of z)) one

first_none : (ss : List told.Session) → slice_get ss 0 ≡ None → slice_get (map session_of ss) 0 ≡ None
first_none [] is = refl
first_none (y ∷ ss) is = absurd (none-some y (sym is))

module _ (layout : Layout) (s : Replica) (ready : IsReadyReplica layout s) where
  -- its number is small
  small : (x : told.Session) → slice_get s.table.sessions 0 ≡ Some x → x.request ≤ 2 ^ 62
  small x is = let there : slice_get (memory s).sessions 0 ≡ Some (session_of x) = first_some s.table.sessions x is in
      (ready.stands.0.sessions.each
      0 (session_of x) (subst (λ (m : Memory). slice_get m.sessions 0 ≡ Some (session_of x)) ready.stands.1 there)).request.1

  pub asked_some : (x : told.Session) (n : ℕ) → slice_get s.table.sessions 0 ≡ Some x
      → (x.request ≤ 2 ^ 62 → n ≡ x.request + 1) → n ≡ next_request (session_of_client the_client (memory s).sessions)
  asked_some x n is next =
      next (small x is) ∙ sym (ap next_request (own_session (memory s).sessions ready.own.alone ∙ first_some s.table.sessions x is))

  pub asked_none : slice_get s.table.sessions 0 ≡ None → 1 ≡ next_request (session_of_client the_client (memory s).sessions)
  asked_none is = sym (ap next_request (own_session (memory s).sessions ready.own.alone ∙ first_none s.table.sessions is))
