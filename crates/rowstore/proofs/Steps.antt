-- A list of calls with one more at its end.
use Rattle.std.proofs.Common.{◌≡◌, ℕ, ◌+◌, ◌<◌, Bool, ◌&&◌, List, [], ◌∷◌, ◌++◌, map, length, get_or, take, Decides, sym, refl, ap, ◌∙◌}
use Rattle.std.proofs.lemmas.List.{map_more, same_from_push}
use Rattle.std.proofs.lemmas.Bool.{and_parts, and_from}
use Rattle.rowstore.specs.declared.call.Call.{Call}
use Rattle.rowstore.specs.Runs.{Request, request, Held, after, reply, run, replies}

pub run_push : (h : Held) (qs : List Request) (q : Request) → run h (qs ++ (q ∷ [])) ≡ after (run h qs) q
run_push h [] q = refl
run_push h (p ∷ ps) q = run_push (after h p) ps q

pub replies_push : (h : Held) (qs : List Request) (q : Request) → replies h (qs ++ (q ∷ [])) ≡ replies h qs ++ (reply (run h qs) q ∷ [])
replies_push h [] q = refl
replies_push h (p ∷ ps) q = ap (λ rs. reply h p ∷ rs) (replies_push (after h p) ps q)

-- a loop over calls that has come to place i
module _ (h : Held) (calls : List Call) (i : ℕ) (d : Call) (l : i < length calls) where
  pub run_more : (now : Held) → now ≡ run h (map request (take i calls)) → after now (request (get_or calls i d)) ≡ run h (map request (take (i + 1) calls))
  run_more now e =
      ap (λ x. after x (request (get_or calls i d))) e
      ∙ sym (ap (run h) (map_more request calls i d l) ∙ run_push h (map request (take i calls)) (request (get_or calls i d)))

  pub replies_more : (now : Held) → now ≡ run h (map request (take i calls)) →
      replies h (map request (take (i + 1) calls)) ≡ replies h (map request (take i calls)) ++ (reply now (request (get_or calls i d)) ∷ [])
  replies_more now e =
      ap (replies h) (map_more request calls i d l) ∙ replies_push h (map request (take i calls)) (request (get_or calls i d))
      ∙ ap (λ x. replies h (map request (take i calls)) ++ (reply x (request (get_or calls i d)) ∷ [])) (sym e)

-- two lists that grow by one element each are the same if they were and the elements are
pub same_push : {X : Type 0} (xs ys : List X) (x y : X) (b c : Bool) → Decides b (xs ≡ ys) → Decides c (x ≡ y) → Decides (b && c) (xs ++ (x ∷ []) ≡ ys ++ (y ∷ []))
same_push xs ys x y b c p q = (
  λ t. let both = and_parts b c t in ap (λ zs. zs ++ (x ∷ [])) (p.0 both.0) ∙ ap (λ z. ys ++ (z ∷ [])) (q.0 both.1),
  λ e. let parts = same_from_push xs ys x y e in and_from b c (p.1 parts.0) (q.1 parts.1),
)
