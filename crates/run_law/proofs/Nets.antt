-- Histories that change at one net.
use Rattle.std.proofs.Common.{◌≡◌, ℕ, zero, suc, ◌+◌, ◌<◌, cond, List, [], ◌∷◌, ◌++◌, length, Option, refl, ap, le_of_suc-le-suc, not-suc-le-zero, arith}
use Rattle.grid.specs.declared.shape.Grid.{Grid}
use Rattle.runs.specs.Worlds.{crosses}
use Rattle.runs.specs.Histories.{NetTold, History, net_told, with_filed, refiled, filed_in, buffers_filed, crossing_nets}

pub refiled_length : (h : History) (k : ℕ) (f : Option (List ℕ)) → length (refiled h k f) ≡ length h
refiled_length [] k f = refl
refiled_length (n ∷ h) zero f = refl
refiled_length (n ∷ h) (suc k) f = ap suc (refiled_length h k f)

pub refiled_own : (h : History) (k : ℕ) (f : Option (List ℕ)) → k < length h → net_told (refiled h k f) k ≡ with_filed f (net_told h k)
refiled_own [] k f l = absurd (not-suc-le-zero l)
refiled_own (n ∷ h) zero f l = refl
refiled_own (n ∷ h) (suc k) f l = refiled_own h k f (le_of_suc-le-suc l)

pub refiled_other : (h : History) (k j : ℕ) (f : Option (List ℕ)) → (j ≡ k → ⊥) → net_told (refiled h k f) j ≡ net_told h j
refiled_other [] k j f l = refl
refiled_other (n ∷ h) zero zero f l = absurd (l refl)
refiled_other (n ∷ h) zero (suc j) f l = refl
refiled_other (n ∷ h) (suc k) zero f l = refl
refiled_other (n ∷ h) (suc k) (suc j) f l = refiled_other h k j f (λ e. l (ap suc e))

-- limits and routes are never touched
pub refiled_limit : (h : History) (k j : ℕ) (f : Option (List ℕ)) → (net_told (refiled h k f) j).limit ≡ (net_told h j).limit
refiled_limit [] k j f = refl
refiled_limit (n ∷ h) zero zero f = refl
refiled_limit (n ∷ h) zero (suc j) f = refl
refiled_limit (n ∷ h) (suc k) zero f = refl
refiled_limit (n ∷ h) (suc k) (suc j) f = refiled_limit h k j f

pub refiled_path : (h : History) (k j : ℕ) (f : Option (List ℕ)) → (net_told (refiled h k f) j).route ≡ (net_told h j).route
refiled_path [] k j f = refl
refiled_path (n ∷ h) zero zero f = refl
refiled_path (n ∷ h) zero (suc j) f = refl
refiled_path (n ∷ h) (suc k) zero f = refl
refiled_path (n ∷ h) (suc k) (suc j) f = refiled_path h k j f

pub refiled_buffers : (h : History) (k : ℕ) (f : Option (List ℕ)) (t : ℕ) → k < length h → buffers_filed (refiled h k f) t + filed_in (net_told h k).route (net_told h k).filed t ≡ buffers_filed h t + filed_in (net_told h k).route f t
refiled_buffers [] k f t l = absurd (not-suc-le-zero l)
refiled_buffers (n ∷ h) zero f t l = omega arith
refiled_buffers (n ∷ h) (suc k) f t l = omega (arith, refiled_buffers h k f t (le_of_suc-le-suc l))

pub refiled_crossing : (g : Grid) (h : History) (k : ℕ) (f : Option (List ℕ)) (b : ℕ) → crossing_nets g (refiled h k f) b ≡ crossing_nets g h b
refiled_crossing g [] k f b = refl
refiled_crossing g (n ∷ h) zero f b = refl
refiled_crossing g (n ∷ h) (suc k) f b = ap (λ x. cond (crosses g n.route b) 1 0 + x) (refiled_crossing g h k f b)

pub push_buffers : (h : History) (n : NetTold) (t : ℕ) → buffers_filed (h ++ (n ∷ [])) t ≡ buffers_filed h t + filed_in n.route n.filed t
push_buffers [] n t = omega arith
push_buffers (m ∷ h) n t = omega (arith, push_buffers h n t)

pub push_crossing : (g : Grid) (h : History) (n : NetTold) (b : ℕ) → crossing_nets g (h ++ (n ∷ [])) b ≡ crossing_nets g h b + cond (crosses g n.route b) 1 0
push_crossing g [] n b = omega arith
push_crossing g (m ∷ h) n b = omega (arith, push_crossing g h n b)
