-- Answers of calls that begin with loading.
use Rattle.mb_load.proofs.Common.{Answers, ap, Bool, Err, false, false≢true, Held, is_free, Loads, MbtError, Ok, refl, Result, State, state_of, subst, sym, Tables, then, true, ◌∙◌, ◌≡◌}
use Rattle.mb_load.specs.Begun.{IsBegun, begun}

-- tables of a state answer what a function of the state answers, and those that are refused answer the refusal
ok_at : {A : Type 0} (f : State → Result A MbtError) (t : Tables) (s : State) (r : Result A MbtError) → state_of t ≡ Ok s → Answers (f s) r → Answers (begun f t) r
unfolding begun
ok_at {A = A} f t s r e a = subst (λ (d : Result State MbtError). Answers {A = A} (then d f) r) (sym e) a

err_at : {A : Type 0} (f : State → Result A MbtError) (t : Tables) (e : MbtError) → (is_free e ≡ false → state_of t ≡ Err e) → is_free e ≡ false → begun f t ≡ Err e
unfolding begun
err_at f t e h free = ap (λ (d : Result State MbtError). then d f) (h free)

-- the same of a store
pub begun_ok : {A : Type 0} (f : State → Result A MbtError) (tells : Bool) (told : Tables) (h : Held) (r : Result A MbtError) → (tells ≡ true → Loads (state_of told) (Ok h)) → ((t : Tables) × Loads (state_of t) (Ok h)) → Answers (f h.state) r → IsBegun f tells told r
begun_ok f true told h r it own a = record { tables = told; is_told = λ _. refl; answers = ok_at f told h.state r (it refl).0 a }
begun_ok f false told h r it own a = record { tables = own.0; is_told = λ e. absurd (false≢true e); answers = ok_at f own.0 h.state r own.1.0 a }

pub begun_err : {A : Type 0} (f : State → Result A MbtError) (tells : Bool) (told : Tables) (e : MbtError) → (tells ≡ true → Loads (state_of told) (Err e)) → ((t : Tables) × Loads (state_of t) (Err e)) → IsBegun f tells told (Err e)
begun_err f true told e it own = record { tables = told; is_told = λ _. refl; answers = err_at f told e (it refl) }
begun_err f false told e it own = record { tables = own.0; is_told = λ h. absurd (false≢true h); answers = err_at f own.0 e own.1 }

-- a set that was loaded, and memory or the store failed then
pub begun_free : {A : Type 0} (f : State → Result A MbtError) (tells : Bool) (told : Tables) (h : Held) (e : MbtError) → is_free e ≡ true → (tells ≡ true → Loads (state_of told) (Ok h)) → ((t : Tables) × Loads (state_of t) (Ok h)) → IsBegun f tells told (Err e)
begun_free f tells told h e free it own = begun_ok f tells told h (Err e) it own (λ k. absurd (false≢true (sym k ∙ free)))
