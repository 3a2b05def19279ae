-- Names, arguments and answers that examples write out.
use Rattle.std.specs.Prelude.{ℕ, List, [], ◌∷◌, ℤ, pos, Option, None, codes}
use Rattle.dt_values.specs.declared.ctype.CType.{CType}
use Rattle.dt_values.specs.declared.ctype.Member.{Member}
use Rattle.dt_host.specs.Hosts.{Answer}

abbrev pub size_name : List ℕ
size_name = codes "ex_size"

abbrev pub shift_name : List ℕ
shift_name = codes "ex_shift_1"

abbrev pub rd : List ℕ
rd = codes "rd"

abbrev pub imm : List ℕ
imm = codes "imm"

abbrev pub size : List ℕ
size = codes "size"

abbrev pub member_of : CType → List ℕ → Member
member_of ctype name = record { ctype = ctype; name = name }

abbrev pub answer_to : ℕ → List ℕ → Option ℤ → ℤ → Answer
answer_to calls function argument answer =
    record { calls = calls; function = function; argument = argument; answer = answer }

-- the function answers 2 before the first call, and 3 after it
abbrev pub growing_sizes : List Answer
growing_sizes = answer_to 0 size_name None (pos 2) ∷ answer_to 1 size_name None (pos 3) ∷ []
