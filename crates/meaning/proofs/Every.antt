-- Properties of both of two tests, of all elements of a list, and of what an option holds, as types that compute.
use mathlib.Core.Path.{◌≡◌, refl}
use mathlib.Core.Logic.{⊎_elim}
use mathlib.Core.Bool.{Bool, true, false, ◌&&◌, cond}
use mathlib.Core.List.Memᴰ
use mathlib.Core.List.{List, [], ◌∷◌, ◌++◌, map, flat_map, Memᴰ}
use mathlib.Core.Option.{Option, none, some}
use lib.Dec.{T}

pub and_left : (a b : Bool) → T (a && b) → T a
and_left true b h = tt
and_left false b h = h

pub and_right : (a b : Bool) → T (a && b) → T b
and_right true b h = h
and_right false b h = absurd h

abbrev pub All : {A : Type 0} → (A → Type 0) → List A → Type 0
All P [] = Unit {0}
All P (x ∷ l) = P x × All P l

abbrev pub Opt : {A : Type 0} → (A → Type 0) → Option A → Type 0
Opt P none = Unit {0}
Opt P (some x) = P x

pub all_append : {A : Type 0} (P : A → Type 0) (l m : List A) → All P l → All P m → All P (l ++ m)
all_append P [] m h k = k
all_append P (x ∷ l) m h k = (h.0, all_append P l m h.1 k)

pub all_mono : {A : Type 0} (P Q : A → Type 0) (l : List A) → ((x : A) → P x → Q x) → All P l → All Q l
all_mono P Q [] f h = tt
all_mono P Q (x ∷ l) f h = (f x h.0, all_mono P Q l f h.1)

pub all_map : {A B : Type 0} (P : A → Type 0) (Q : B → Type 0) (f : A → B) (l : List A) → ((x : A) → P x → Q (f x)) → All P l → All Q (map f l)
all_map P Q f [] g h = tt
all_map P Q f (x ∷ l) g h = (g x h.0, all_map P Q f l g h.1)

pub all_flat_map : {A B : Type 0} (P : A → Type 0) (Q : B → Type 0) (f : A → List B) (l : List A) → ((x : A) → P x → All Q (f x)) → All P l → All Q (flat_map f l)
unfolding flat_map
all_flat_map P Q f [] g h = tt
all_flat_map P Q f (x ∷ l) g h = all_append Q (f x) (flat_map f l) (g x h.0) (all_flat_map P Q f l g h.1)

pub all_if : {A : Type 0} (P : A → Type 0) (t : Bool) (l : List A) → (T t → All P l) → All P (cond t l [])
all_if P true l h = h tt
all_if P false l h = tt

-- No element has a property that none can have.
pub all_none : {A : Type 0} (P : A → Type 0) (l : List A) → All P l → ((x : A) → P x → ⊥) → l ≡ []
all_none P [] h n = refl
all_none P (x ∷ l) h n = absurd (n x h.0)

-- The same of the members of a list: for lists that are not taken apart.
abbrev pub Every : {A : Type 0} → (A → Type 0) → List A → Type 0
Every P l = (x : _) → Memᴰ x l → P x

pub every_left : {A : Type 0} (P : A → Type 0) (l m : List A) → Every P (l ++ m) → Every P l
every_left P l m h x i = h x (Memᴰ.append_left m i)

pub every_right : {A : Type 0} (P : A → Type 0) (l m : List A) → Every P (l ++ m) → Every P m
every_right P l m h x i = h x (Memᴰ.append_right l i)

pub every_append : {A : Type 0} (P : A → Type 0) (l m : List A) → Every P l → Every P m → Every P (l ++ m)
every_append P l m h k x i = ⊎_elim (h x) (k x) (Memᴰ.append_cases l i)
